use Rattle.std.proofs.Common.{arith}
use Rattle.cpu_core.proofs.Going.{steps-below}
use Rattle.cpu_core.proofs.progress.Progress.step_later.Goals as goal

pub returns-in_default-phase : goal.returns-in_default-phase
returns-in_default-phase c = steps-below c.after_accumulator.ensures (omega (arith, c.if-self.true))

pub returns-in_default-phase-6 : goal.returns-in_default-phase-6
returns-in_default-phase-6 c = steps-below c.after_indexed_pointer_high.ensures (omega (arith, c.if-self-6.true))
