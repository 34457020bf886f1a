use Rattle.std.proofs.Common.{◌≡◌, ◌*◌, ◌++◌, take}
use Rattle.std.specs.Prelude.{flat_map}
use Rattle.frame_out.specs.Pixmap.{header, pixel}
use Rattle.frame_out.proofs.pixmap.Given as goal

-- the pixels of the colours that are done are in the file
abbrev pub invariant-loop-i : goal.invariant-loop-i
invariant-loop-i l = l.bytes.items ≡ header ++ flat_map pixel (take (16 * l.i) l.colours)

abbrev pub invariant-loop-k : goal.invariant-loop-k
invariant-loop-k l = l.bytes.items ≡ header ++ flat_map pixel (take l.k l.colours)
