use Rattle.crtc6845.proofs.Sync.{never_comes}
use Rattle.crtc6845.proofs.law.no_sync_beyond_the_rows.Goals as goal

pub returns : goal.returns
returns c = never_comes
