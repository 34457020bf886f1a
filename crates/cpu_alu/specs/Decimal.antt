-- The meaning of decimal mode: a byte of two decimal digits is the number that it shows.
use Rattle.std.specs.Prelude.{ℕ, ◌+◌, ◌-◌, ◌*◌, ◌/◌, ◌%◌, Bool}
use Rattle.cpu_alu.specs.Arithmetic.{carry}

-- the byte of a number below 100: its tens in the high digit, its ones in the low digit
abbrev pub digits : ℕ → ℕ
digits n = n / 10 * 16 + n % 10

-- x plus y plus the carry
abbrev pub plus : ℕ → ℕ → Bool → ℕ
plus x y c = x + y + carry c

-- 100 plus x, less y, and less one more if the carry is clear
abbrev pub less : ℕ → ℕ → Bool → ℕ
less x y c = 99 + x + carry c - y
