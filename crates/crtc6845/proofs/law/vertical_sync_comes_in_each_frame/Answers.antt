use Rattle.crtc6845.proofs.Sync.{comes_in_each_frame}
use Rattle.crtc6845.proofs.law.vertical_sync_comes_in_each_frame.Goals as goal

pub returns : goal.returns
returns c = comes_in_each_frame
