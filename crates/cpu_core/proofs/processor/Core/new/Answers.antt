use Rattle.cpu_core.proofs.processor.Core.new.Goals as goal

pub invariant_of-result : goal.invariant_of-result
invariant_of-result g c = (rw c.new.ensures, rw c.new.ensures (c.first_progress.ensures g.P.Which.part))
