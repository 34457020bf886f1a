use Rattle.crtc6845.proofs.Sync.{sync_lasts}
use Rattle.crtc6845.proofs.law.vertical_sync_has_its_lines.Goals as goal

pub returns : goal.returns
returns c = sync_lasts
