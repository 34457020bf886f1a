use Rattle.std.proofs.Common.{◌≡◌, ◌∙◌, sym, ap, ◌-◌, ℕ, Bool, true, false, arith}
use Rattle.via6522.specs.State.{Timer1}
use Rattle.via6522.proofs.Seen.{seen1}
use Rattle.via6522.specs.Jumps.{timer1_at_end, timer1_later, timer1_flags_within}
use Rattle.via6522.proofs.FreeRun.{counts_down, runs_past}
use Rattle.via6522.proofs.CountDown.{past1}
use Rattle.via6522.proofs.timer1.Timer1.count.Goals as goal

pub returns-then-n-counter : goal.returns-then-n-counter
returns-then-n-counter c =
    let t = seen1 c.self.inside in
    let loaded : t.reload ≡ false = ap (λ (u : Timer1). u.reload) c.self.view_is ∙ c.requires in
    let down = counts_down c.args.runs_free c.args.n t loaded (omega arith) (omega arith) in
    record {
      timer = sym down.0 ∙ ap (timer1_later c.args.runs_free c.args.n) c.self.view_is;
      flag = sym down.1 ∙ ap (timer1_flags_within c.args.runs_free c.args.n) c.self.view_is;
    }

pub returns-then-runs_free : goal.returns-then-runs_free
returns-then-runs_free c =
    let t = seen1 c.self.inside in
    let loaded : t.reload ≡ false = ap (λ (u : Timer1). u.reload) c.self.view_is ∙ c.requires in
    let past = runs_past c.args.n t loaded (omega arith) (omega arith) in
    record {
      timer = c.run_on.ensures ∙ ap (λ (k : ℕ). timer1_later true (c.args.n - k - 1) (timer1_at_end c.args.self.now)) c.from-counter.ensures
          ∙ ap (λ (u : Timer1). timer1_later true (c.args.n - t.counter - 1) (timer1_at_end u)) (sym c.self.view_is)
          ∙ past.0 ∙ ap (λ (b : Bool). timer1_later b c.args.n t) (sym c.if-runs_free.true)
          ∙ ap (timer1_later c.args.runs_free c.args.n) c.self.view_is;
      flag = past.1 ∙ ap (λ (b : Bool). timer1_flags_within b c.args.n t) (sym c.if-runs_free.true)
          ∙ ap (timer1_flags_within c.args.runs_free c.args.n) c.self.view_is;
    }

pub returns : goal.returns
returns c =
    let t = seen1 c.self.inside in
    let loaded : t.reload ≡ false = ap (λ (u : Timer1). u.reload) c.self.view_is ∙ c.requires in
    let past = past1 c.args.n t loaded (omega arith) (omega arith) in
    record {
      timer = past.0 ∙ ap (λ (b : Bool). timer1_later b c.args.n t) (sym c.if-runs_free.false) ∙ ap (timer1_later c.args.runs_free c.args.n) c.self.view_is;
      flag = past.1 ∙ ap (λ (b : Bool). timer1_flags_within b c.args.n t) (sym c.if-runs_free.false)
          ∙ ap (timer1_flags_within c.args.runs_free c.args.n) c.self.view_is;
    }
