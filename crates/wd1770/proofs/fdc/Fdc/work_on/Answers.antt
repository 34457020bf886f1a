use Rattle.std.proofs.Common.{◌≡◌, ◌∙◌, sym, ap, arith, ℕ}
use Rattle.wd1770.specs.Step.{steps}
use Rattle.wd1770.proofs.Runs.{no_steps}
use Rattle.wd1770.proofs.fdc.Fdc.work_on.Goals as goal

pub returns : goal.returns
returns c =
    let none : c.loop-left.left ≡ 0 = omega arith in
    sym (no_steps c.loop-left.self) ∙ sym (ap (λ (k : ℕ). steps k c.loop-left.self) none) ∙ c.loop-left.invariant
