-- Further digits never lower a number.
use Rattle.std.proofs.lemmas.List.{drop_more}
use Rattle.std.proofs.lemmas.Bool.Decides.{nat_tests}
use Rattle.std.proofs.Math.Nat.{pow-le-pow_right}
use Rattle.std.proofs.Common.{◌≡◌, ◌<◌, ◌^◌, None, drop, length, get_or, ℕ, ◌+◌, ◌-◌, ◌*◌, ◌≤◌, List, [], ◌∷◌, arith, lit<}
use Rattle.digits.specs.Decimal.{decimal_value_after, decimal_value, decimal_number}

grown : (digits : List ℕ) (n : ℕ) → n ≤ decimal_value_after n digits
grown [] n = omega arith
grown (b ∷ digits) n = omega (arith, grown digits (10 * n + (b - 48)))

-- a number above the largest stays above it after further digits
pub past : (most n i : ℕ) (digits : List ℕ) → i < length digits → most < 10 * n + (get_or digits i 0 - 48) → most < decimal_value_after n (drop i digits)
past most n i digits h more =
    rw (drop_more digits i 0 h) (omega (arith, grown (drop (i + 1) digits) (10 * n + (get_or digits i 0 - 48))))

pub number_past : (most : ℕ) (text : List ℕ) → most < decimal_value text → decimal_number most text ≡ None
number_past most text h = grind (arith, nat_tests)

pub eighteen : (i : ℕ) → i ≤ 18 → 10 ^ i ≤ 10 ^ 18
eighteen i le = pow-le-pow_right {n = 10} (lit< tt) le
