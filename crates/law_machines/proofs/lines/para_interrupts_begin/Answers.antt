use Rattle.law_machines.proofs.Interrupting.{para_interrupts}
use Rattle.law_machines.proofs.lines.para_interrupts_begin.Goals as goal

pub returns : goal.returns
returns c = para_interrupts
