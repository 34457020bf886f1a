use Rattle.std.proofs.Common.{sym, subst}
use Rattle.para_mach.specs.CodeNotes.{IsHeldAtLook}
use Rattle.para_mach.proofs.Held.{next_held}
use Rattle.para_mach.proofs.machine.ParaMachineParty.answer.Goals as goal

pub invariant_of-self : goal.invariant_of-self
invariant_of-self c = (subst IsHeldAtLook (sym c.answer.ensures.taken) (next_held _ _ c.self.invariant.0), c.answer.ensures.before)
