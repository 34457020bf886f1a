use Rattle.sn76489.proofs.Tones.{all_turn, all_turn_at_0, all_turn_at_1}
use Rattle.sn76489.proofs.law.tones_turn_over.Goals as goal

pub returns : goal.returns
returns c = record { each = all_turn; period_0 = all_turn_at_0; period_1 = all_turn_at_1 }
