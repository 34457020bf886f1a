-- The bounds of hexadecimal numbers.
use Rattle.std.proofs.Common.{ℕ, ◌^◌, ◌≤◌, lit<}
use Rattle.std.proofs.Math.Nat.{pow-le-pow_right}

-- two digits or fewer, and four
pub two : (i : ℕ) → i ≤ 2 → 16 ^ i ≤ 16 ^ 2
two i le = pow-le-pow_right {n = 16} (lit< tt) le

pub four : (i : ℕ) → i ≤ 4 → 16 ^ i ≤ 16 ^ 4
four i le = pow-le-pow_right {n = 16} (lit< tt) le
