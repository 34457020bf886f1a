use Rattle.demo_gen.proofs.Fitting.{all_fit}
use Rattle.demo_gen.proofs.images_fit.Goals as goal

pub returns : goal.returns
returns c = all_fit
