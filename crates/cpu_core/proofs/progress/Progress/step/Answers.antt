use Rattle.std.proofs.Common.{arith}
use Rattle.cpu_core.proofs.Going.{steps-below}
use Rattle.cpu_core.proofs.progress.Progress.step.Goals as goal

pub returns-in_default : goal.returns-in_default
returns-in_default c = steps-below c.after_operand.ensures (omega (arith, c.if-self.true))

pub returns-in_default-phase-2 : goal.returns-in_default-phase-2
returns-in_default-phase-2 c = steps-below c.after_branch_taken.ensures (omega (arith, c.if-self-3.true))
