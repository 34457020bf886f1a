use Rattle.law_chips.proofs.Waves.{all_waves}
use Rattle.law_chips.proofs.sounds.tones_are_square_waves.Goals as goal

pub returns : goal.returns
returns c = all_waves
