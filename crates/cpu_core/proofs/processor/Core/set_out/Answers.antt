use Rattle.cpu_core.proofs.processor.Core.set_out.Goals as goal

pub invariant_of-self : goal.invariant_of-self
invariant_of-self g c = (rw c.after-self-inside.ensures, rw c.after-self-inside.ensures (c.set_off.ensures.tied g.P.Which.part))
