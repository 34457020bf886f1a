use Rattle.para_mach.proofs.Held.{port_run_to_ask_held}
use Rattle.para_mach.proofs.machine.ParaMachineParty.advance_at.Goals as goal

pub invariant_of-self : goal.invariant_of-self
invariant_of-self g c = (port_run_to_ask_held c.self.invariant.0 c.advance_at.ensures.port_run_to_ask, c.advance_at.ensures.before)
