use Rattle.law_machines.proofs.Finishing.{frames_finish}
use Rattle.law_machines.proofs.pictures.frames_finish.Goals as goal

pub returns : goal.returns
returns c = frames_finish c.vertical_sync_comes_in_each_frame.ensures c.no_sync_beyond_the_rows.ensures
