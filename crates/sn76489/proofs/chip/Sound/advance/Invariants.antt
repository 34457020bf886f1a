use Rattle.std.proofs.Common.{◌≡◌, ◌≤◌, ◌-◌}
use Rattle.sn76489.specs.Clock.{clocks}
use Rattle.sn76489.proofs.chip.Sound.advance.Given as goal

abbrev pub invariant-loop-done : goal.invariant-loop-done
invariant-loop-done l = (l.self ≡ clocks l.done l.initial.self) × (l.done ≤ l.n)

abbrev pub decreases-loop-done : goal.decreases-loop-done
decreases-loop-done l = l.n - l.done
