use Rattle.std.proofs.Common.{◌∙◌, sym}
use Rattle.cpu_core.proofs.Steps.{not_over, tied-after_byte, regs-after_byte}
use Rattle.cpu_core.proofs.processor.Core.give.Goals as goal

pub step-requires : goal.step-requires
step-requires g c = record { going = not_over (rw c.self.view_is at c.self.invariant.1) c.requires }

pub invariant_of-self : goal.invariant_of-self
invariant_of-self g c =
    let turned = rw c.kind-part.ensures at c.after-self-inside.ensures in (
      c.self.invariant.0 ∙ rw turned (sym (regs-after_byte g.P.Which.part c.self.inside.trail.state c.args.byte)),
      rw turned (tied-after_byte c.self.invariant.1 c.args.byte (rw c.kind-part.ensures at c.step.ensures)),
    )
