use Rattle.para_mach.proofs.Held.{passes_held}
use Rattle.para_mach.proofs.machine.ParaMachine.skip_while.Goals as goal

pub invariant_of-self : goal.invariant_of-self
invariant_of-self c = ((passes_held _ _ _ _ _ _ c.self.invariant.0 c.skip_over.ensures.passes.1).1, c.skip_over.ensures.before)

pub returns : goal.returns
returns c = (c.skip_over.ensures.passes.0, rw (← c.self.view_is) (passes_held _ _ _ _ _ _ c.self.invariant.0 c.skip_over.ensures.passes.1).0)
