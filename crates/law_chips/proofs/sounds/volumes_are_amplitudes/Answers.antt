use Rattle.law_chips.proofs.Volumes.{all_volumes}
use Rattle.law_chips.proofs.sounds.volumes_are_amplitudes.Goals as goal

pub returns : goal.returns
returns c = all_volumes
