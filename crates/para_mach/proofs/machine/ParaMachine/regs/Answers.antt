use Rattle.para_mach.proofs.machine.ParaMachine.regs.Goals as goal

pub returns-then-self : goal.returns-then-self
returns-then-self c = rw (← c.self.view_is, ← c.self-inside.view_is, c.if-self.true) c.at_end.ensures

pub returns-else-self : goal.returns-else-self
returns-else-self c = rw (← c.self.view_is, ← c.self-inside.view_is, c.if-self.false) c.at_start.ensures
