use Rattle.sn76489.proofs.Cycle.{all_repeat}
use Rattle.sn76489.proofs.law.noise_repeats.Goals as goal

pub returns : goal.returns
returns c = all_repeat
