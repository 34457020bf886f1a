-- The text of a disassembly means the bytes from which it was made.
use Rattle.std.specs.Prelude.{◌≡◌, ℕ, ◌+◌, ◌<◌, ◌≤◌, List, length, All, Ok}
use Rattle.op_table.specs.declared.Part.{Part}
use Rattle.asm65.specs.Source.{source}
use Rattle.dis65.specs.Listing.{decode}

-- The text, assembled for the same part, yields the origin and the bytes.
abbrev pub DecodeMeansItsBytes : Type 0
DecodeMeansItsBytes =
    (part : Part) (origin : ℕ) (bytes : List ℕ) → origin < 65536 → All (λ b. b < 256) bytes → origin + length bytes ≤ 65536 →
    source part (decode part bytes origin) ≡ Ok (origin, bytes)
