use Rattle.std.proofs.Common.{◌≡◌}
use Rattle.wd1770.specs.Step.{steps}
use Rattle.wd1770.proofs.fdc.Fdc.work_on.Given as goal

abbrev pub invariant-loop-left : goal.invariant-loop-left
invariant-loop-left l = steps l.left l.self ≡ steps l.n l.fn.self

abbrev pub decreases-loop-left : goal.decreases-loop-left
decreases-loop-left l = l.left
