use Rattle.std.proofs.Common.{◌∙◌}
use Rattle.cpu_core.proofs.Steps.{stuck-tied}
use Rattle.cpu_core.proofs.processor.Core.halted.Goals as goal

pub returns-in-Nmos : goal.returns-in-Nmos
returns-in-Nmos g c = c.is_stuck.ensures ∙ stuck-tied (rw c.self.view_is at c.self.invariant.1)
