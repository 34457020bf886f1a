use Rattle.para_mach.proofs.Held.{sees_held}
use Rattle.para_mach.proofs.machine.ParaMachineParty.advance_seeing.Goals as goal

pub invariant_of-self : goal.invariant_of-self
invariant_of-self c = (sees_held c.self.invariant.0 c.advance_seeing.ensures.sees, c.advance_seeing.ensures.before)
