use Rattle.std.proofs.Common.{◌≡◌, ◌*◌, take}
use Rattle.beeb_bits.specs.Zeros.{zeros}
use Rattle.raster.proofs.frame.clear_lines.Given as goal

-- the lines that are done
abbrev pub invariant-loop-y : goal.invariant-loop-y
invariant-loop-y l = take (640 * l.y) l.dots ≡ zeros (640 * l.y)
