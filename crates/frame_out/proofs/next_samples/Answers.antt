use Rattle.std.proofs.Common.{◌∙◌}
use Rattle.frame_out.proofs.Sixteen.{next_are}
use Rattle.frame_out.proofs.next_samples.Goals as goal

pub returns : goal.returns
returns c = c.samples.ensures ∙ next_are c.args.colours c.fits-colours.0 c.fits-colours.1
