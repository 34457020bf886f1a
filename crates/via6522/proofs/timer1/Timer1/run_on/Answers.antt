use Rattle.std.proofs.Common.{◌≡◌, ◌∙◌, sym, ap, ◌<◌, ◌+◌, ◌%◌, true, arith}
use Rattle.via6522.specs.State.{Timer1}
use Rattle.via6522.proofs.Seen.{seen1}
use Rattle.via6522.specs.Timers.{word}
use Rattle.via6522.specs.Jumps.{timer1_at_end, timer1_later}
use Rattle.via6522.proofs.FreeRun.{whole, partly}
use Rattle.via6522.proofs.timer1.Timer1.run_on.Goals as goal

pub returns-then-phase-eq0 : goal.returns-then-phase-eq0
returns-then-phase-eq0 c =
    let t = seen1 c.self.inside in
    let latch : word c.self.inside.latch_high c.self.inside.latch_low ≡ c.from-latch.result = sym (c.from-latch.ensures ∙ c.word.ensures) in
    whole c.from-latch.result c.args.n t latch (omega arith) c.if-phase-eq0.true ∙ ap (λ (u : Timer1). timer1_later true c.args.n (timer1_at_end u)) c.self.view_is

pub returns-else-phase-eq0 : goal.returns-else-phase-eq0
returns-else-phase-eq0 c =
    let t = seen1 c.self.inside in
    let latch : word c.self.inside.latch_high c.self.inside.latch_low ≡ c.from-latch.result = sym (c.from-latch.ensures ∙ c.word.ensures) in
    let some : 0 < c.args.n % (c.from-latch.result + 2) = omega (arith, c.if-phase-eq0.false) in
    partly c.from-latch.result c.args.n t latch (omega arith) some ∙ ap (λ (u : Timer1). timer1_later true c.args.n (timer1_at_end u)) c.self.view_is
