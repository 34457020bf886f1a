use Rattle.law_machines.proofs.Shooting.{shots_are_finished}
use Rattle.law_machines.proofs.pictures.shots_are_finished.Goals as goal

pub returns : goal.returns
returns c = shots_are_finished c.frames_finish.ensures
