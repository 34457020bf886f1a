use Rattle.sn76489.proofs.Shifting.{all_in_time}
use Rattle.sn76489.proofs.law.noise_shifts_in_time.Goals as goal

pub returns : goal.returns
returns c = all_in_time
