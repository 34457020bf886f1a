use Rattle.std.proofs.Common.{◌∙◌, sym, ap, Bool, arith}
use Rattle.via6522.proofs.Seen.{seen2}
use Rattle.via6522.specs.Jumps.{timer2_later, timer2_flags_within}
use Rattle.via6522.proofs.CountDown.{stands_still, starts2}
use Rattle.via6522.proofs.timer2.Timer2.advance.Goals as goal

pub returns-then-stands_still : goal.returns-then-stands_still
returns-then-stands_still c =
    let still = stands_still c.args.n c.args.self.now in
    record {
      timer = sym (ap (λ (b : Bool). timer2_later b c.args.n c.args.self.now) c.if-stands_still.true ∙ still.0);
      flag = sym (ap (λ (b : Bool). timer2_flags_within b c.args.n c.args.self.now) c.if-stands_still.true ∙ still.1);
    }

pub returns-then-self : goal.returns-then-self
returns-then-self c =
    let t = seen2 c.self.inside in
    let first = starts2 c.args.n t c.if-self.true (omega (arith, c.if-n-eq0.false)) in
    record {
      timer = c.count.ensures.timer ∙ first.0 ∙ ap (λ (b : Bool). timer2_later b c.args.n t) (sym c.if-stands_still.false)
          ∙ ap (timer2_later c.args.stands_still c.args.n) c.self.view_is;
      flag = c.count.ensures.flag ∙ first.1 ∙ ap (λ (b : Bool). timer2_flags_within b c.args.n t) (sym c.if-stands_still.false)
          ∙ ap (timer2_flags_within c.args.stands_still c.args.n) c.self.view_is;
    }
