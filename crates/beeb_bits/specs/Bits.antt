-- The bits of a byte, bit 0 the lowest.
use Rattle.std.specs.Prelude.{ℕ, ◌/◌, ◌%◌, ◌^◌, ◌==◌, Bool, if◌then◌else◌}

-- bit n of v is 1
abbrev pub bit : ℕ → ℕ → Bool
bit v n = v / 2 ^ n % 2 == 1

-- the weight of a set bit, otherwise 0
abbrev pub weight : ℕ → Bool → ℕ
weight n b = if b then n else 0
