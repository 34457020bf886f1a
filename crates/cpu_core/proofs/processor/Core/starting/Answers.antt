use Rattle.std.proofs.Common.{◌∙◌}
use Rattle.cpu_core.proofs.processor.Core.starting.Goals as goal

pub returns : goal.returns
returns g c = c.is_fetch.ensures ∙ (rw c.self.view_is at c.self.invariant.1).fetch
