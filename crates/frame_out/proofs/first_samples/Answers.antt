use Rattle.std.proofs.Common.{◌∙◌}
use Rattle.frame_out.proofs.Sixteen.{first_are}
use Rattle.frame_out.proofs.first_samples.Goals as goal

pub returns : goal.returns
returns c = c.samples.ensures ∙ first_are c.args.colours c.fits-colours.0 c.fits-colours.1
