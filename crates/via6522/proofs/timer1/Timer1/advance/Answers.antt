use Rattle.std.proofs.Common.{◌∙◌, ap, ℕ, ◌-◌, false, arith}
use Rattle.via6522.proofs.Seen.{seen1}
use Rattle.via6522.specs.Jumps.{timer1_later, timer1_flags_within}
use Rattle.via6522.proofs.FreeRun.{loads}
use Rattle.via6522.proofs.timer1.Timer1.advance.Goals as goal

pub returns-then-self : goal.returns-then-self
returns-then-self c =
    let t = seen1 c.self.inside in
    let first = loads c.args.runs_free c.args.n t c.if-self.true (omega (arith, c.if-n-eq0.false)) in
    record {
      timer = c.count.ensures.timer
          ∙ ap (λ (k : ℕ). timer1_later c.args.runs_free (c.args.n - 1) (record t { counter = k; reload = false })) c.word-self-inside.ensures
          ∙ first.0 ∙ ap (timer1_later c.args.runs_free c.args.n) c.self.view_is;
      flag = c.count.ensures.flag
          ∙ ap (λ (k : ℕ). timer1_flags_within c.args.runs_free (c.args.n - 1) (record t { counter = k; reload = false })) c.word-self-inside.ensures
          ∙ first.1 ∙ ap (timer1_flags_within c.args.runs_free c.args.n) c.self.view_is;
    }
