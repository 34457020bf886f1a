use Rattle.sn76489.proofs.Silence.{all_silent, noise_silent}
use Rattle.sn76489.proofs.law.volume_15_is_silence.Goals as goal

pub returns : goal.returns
returns c = record { tones = all_silent; noise = noise_silent }
