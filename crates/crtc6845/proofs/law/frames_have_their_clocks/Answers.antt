use Rattle.crtc6845.proofs.Places.{restarts}
use Rattle.crtc6845.proofs.law.frames_have_their_clocks.Goals as goal

pub returns : goal.returns
returns c = restarts
