use Rattle.para_mach.proofs.Held.{port_run_to_ask_held, port_run_to_ask_wider, goes_on_wider}
use Rattle.para_mach.proofs.machine.ParaMachine.go_noting.Goals as goal

pub invariant_of-self : goal.invariant_of-self
invariant_of-self g c = (port_run_to_ask_held c.self.invariant.0 (rw c.in-Asked.is at c.carry_on-left.ensures.ran), c.carry_on-left.ensures.before)

pub returns-in-Asked-clause-goes : goal.returns-in-Asked-clause-goes
returns-in-Asked-clause-goes g c = rw (← c.self.view_is) (port_run_to_ask_wider c.near-near.ensures.0 (rw c.in-Asked.is at c.carry_on-left.ensures.ran))

pub returns-in-Look-clause-goes : goal.returns-in-Look-clause-goes
returns-in-Look-clause-goes g c =
    let ran = rw c.in-Look.is at c.carry_on-left.ensures.ran in
    rw (← c.self.view_is) (goes_on_wider c.near-near.ensures.0 ran.0 c.hold.ensures.goes)
