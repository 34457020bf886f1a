-- Hexadecimal digits one at a time.
use Rattle.std.proofs.Common.{◌≡◌, ℕ, ◌+◌, ◌*◌, ◌^◌, ◌<◌, ◌≤◌, length, get_or, List, false, IsTrue, arith, lit<}
use Rattle.std.proofs.lemmas.List.Folds.{list_all_at}
use Rattle.std.proofs.lemmas.Grind.{pow_more}
use Rattle.std.proofs.Math.Nat.{pow-le-pow_right}
use Rattle.std.specs.List.{list_all}
use Rattle.digits.specs.Hexadecimal.{is_hex_any_case}

-- one of the digits is a digit
pub digit-at : (digits : List ℕ) (i : ℕ) → i < length digits → IsTrue (list_all is_hex_any_case digits) → IsTrue (is_hex_any_case (get_or digits i 0))
digit-at digits i h all =
    let none : is_hex_any_case (get_or digits i 0) ≡ false → list_all is_hex_any_case digits ≡ false = list_all_at is_hex_any_case digits i 0 h in grind arith

-- one more digit, and the next power as bound
pub one_more : (number digit i : ℕ) → number < 16 ^ i → digit < 16 → 16 * number + digit < 16 ^ (i + 1)
one_more number digit i h d = rw pow_more (omega arith)

pub fifteen : (i : ℕ) → i ≤ 15 → 16 ^ i ≤ 16 ^ 15
fifteen i le = pow-le-pow_right {n = 16} (lit< tt) le

pub ruleset digit_steps = (digit-at, one_more, fifteen)
