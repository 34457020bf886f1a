-- The verdict of machines, by the list of their outputs.
use Rattle.std.proofs.Common.{◌≡◌, refl, [], Result, Ok, Err, IfOk}
use Rattle.std.specs.declared.vec.Vec.{Vec}
use Rattle.std.specs.declared.alloc.Global.{Global}
use Rattle.bus_plug.specs.Plug.{Plug}
use Rattle.cmd_stages.specs.declared.outcome.Outcome.{Outcome}
use Rattle.cmd_status.specs.declared.status.Ending.{Ending}
use Rattle.cmd_status.specs.declared.status.Ending.TheVariants.{Done}
use Rattle.cmd_outcome.specs.declared.left.Left.{Left}
use Rattle.cmd_outcome.specs.declared.output.Output.{Output}
use Rattle.cmd_outcome.specs.Outputs.{machine_outputs}
use Rattle.cmd_outcome.specs.View.{left_seen, verdict_of}
use Rattle.cmd_outcome.specs.Verdicts.{machine_verdict}

pub machine_is : {D E : Type 0} (plug : D → Plug) (left : Left D) (made : Result (Vec Output Global) E) (r : Result (Outcome Ending Output (Left D)) E) →
    IfOk made (λ v. v.items ≡ machine_outputs (left_seen plug left)) → IfOk r (λ o. made ≡ Ok o.outputs) → IfOk r (λ o. o.left ≡ left) →
    IfOk r (λ o. (o.ending ≡ Done) × (o.said.items ≡ [])) → IfOk r (λ o. verdict_of plug o ≡ machine_verdict (left_seen plug left))
unfolding machine_verdict
machine_is plug left made (Err e) listed outputs same done = tt
machine_is plug left made (Ok o) listed outputs same done =
    let items : o.outputs.items ≡ machine_outputs (left_seen plug left) = rw outputs at listed in rw (same, done.0, done.1, items) refl
