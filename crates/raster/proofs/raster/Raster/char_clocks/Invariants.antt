use Rattle.std.proofs.Common.{◌≡◌, ◌-◌, ◌≤◌}
use Rattle.raster.specs.CodeSteps.{char_clocks}
use Rattle.raster.proofs.raster.Raster.char_clocks.Given as goal

abbrev pub invariant-loop-left : goal.invariant-loop-left
invariant-loop-left l = (l.self ≡ char_clocks l.ram l.size l.font.font (l.n - l.left) l.initial.self) × (l.left ≤ l.n)

abbrev pub decreases-loop-left : goal.decreases-loop-left
decreases-loop-left l = l.left
