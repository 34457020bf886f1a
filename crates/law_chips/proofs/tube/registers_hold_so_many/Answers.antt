use Rattle.law_chips.proofs.Holding.{all_hold}
use Rattle.law_chips.proofs.tube.registers_hold_so_many.Goals as goal

pub returns : goal.returns
returns c = all_hold
