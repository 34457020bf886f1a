use Rattle.std.proofs.Common.{◌∙◌, sym, ap, arith}
use Rattle.para_mach.specs.State.{ParaState}
use Rattle.para_mach.specs.declared.machine.ParaMachine.TheInside.{Inside}
use Rattle.para_mach.proofs.Held.{held_more}
use Rattle.para_mach.proofs.machine.ParaMachine.hold.Goals as goal

pub loop-self-preserved : goal.loop-self-preserved
loop-self-preserved c =
    held_more c.loop-self.invariant c.if-lines.true
    (λ e. c.if-lines-self.true (e ∙ sym (ap (λ (x : ParaState). x.bus.resets) c.self.view_is) ∙ sym (ap (λ (x : Inside). x.bus.resets) c.self-inside.view_is)))
    (omega (arith, c.loop-self-test.true, c.min-bound.ensures)) (omega (arith, c.loop-self-test.true, c.min-bound.ensures)) c.take_lines.ensures.taken c.take_lines.ensures.before
