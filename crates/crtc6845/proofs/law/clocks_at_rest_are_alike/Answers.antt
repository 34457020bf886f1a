use Rattle.crtc6845.proofs.Rests.{rests_on}
use Rattle.crtc6845.proofs.law.clocks_at_rest_are_alike.Goals as goal

pub returns : goal.returns
returns c = rests_on
