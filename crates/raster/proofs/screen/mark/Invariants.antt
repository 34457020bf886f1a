use Rattle.std.proofs.Common.{◌≡◌}
use Rattle.std.specs.Prelude.{bit_xor}
use Rattle.raster.proofs.Marks.{replaced}
use Rattle.raster.proofs.screen.mark.Given as goal

abbrev pub invariant-loop-i : goal.invariant-loop-i
invariant-loop-i l = l.dots ≡ replaced (λ colour. bit_xor colour l.ink) l.i l.fn.dots
