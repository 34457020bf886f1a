use Rattle.std.proofs.Common.{◌≡◌, ◌∙◌, ap, false, arith}
use Rattle.via6522.specs.State.{Timer2}
use Rattle.via6522.proofs.Seen.{seen2}
use Rattle.via6522.specs.Jumps.{timer2_later, timer2_flags_within}
use Rattle.via6522.proofs.CountDown.{within2, past2}
use Rattle.via6522.proofs.timer2.Timer2.count.Goals as goal

pub returns-then-n-from : goal.returns-then-n-from
returns-then-n-from c =
    let t = seen2 c.self.inside in
    let begun : t.fresh ≡ false = ap (λ (u : Timer2). u.fresh) c.self.view_is ∙ c.requires in
    let inside = within2 c.args.n t begun (omega arith) (omega arith) in
    record { timer = inside.0 ∙ ap (timer2_later false c.args.n) c.self.view_is; flag = inside.1 ∙ ap (timer2_flags_within false c.args.n) c.self.view_is }

pub returns : goal.returns
returns c =
    let t = seen2 c.self.inside in
    let begun : t.fresh ≡ false = ap (λ (u : Timer2). u.fresh) c.self.view_is ∙ c.requires in
    let past = past2 c.args.n t begun (omega arith) (omega arith) in
    record { timer = past.0 ∙ ap (timer2_later false c.args.n) c.self.view_is; flag = past.1 ∙ ap (timer2_flags_within false c.args.n) c.self.view_is }
