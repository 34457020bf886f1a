use Rattle.law_machines.proofs.Interrupting.{host_interrupts}
use Rattle.law_machines.proofs.lines.host_interrupts_begin.Goals as goal

pub returns : goal.returns
returns c = host_interrupts
