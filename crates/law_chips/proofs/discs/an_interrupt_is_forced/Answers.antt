use Rattle.law_chips.proofs.Forcing.{interrupts_are_forced}
use Rattle.law_chips.proofs.discs.an_interrupt_is_forced.Goals as goal

pub returns : goal.returns
returns c = interrupts_are_forced
