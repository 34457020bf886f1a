use Rattle.std.proofs.Common.{◌≡◌, length}
use Rattle.saa5050.specs.CodeLetters.{HasLines}
use Rattle.saa5050.proofs.glyphs.all_lines.Given as goal

-- the lines that are done
abbrev pub invariant-loop-i : goal.invariant-loop-i
invariant-loop-i l = (length l.lines.items ≡ 1920) × HasLines l.roms.font l.lines.items l.i
