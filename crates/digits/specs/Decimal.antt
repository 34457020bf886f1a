-- Decimal digits. Numbers are written by `decimal` of std.
use Rattle.std.specs.Prelude.{ℕ, ◌+◌, ◌-◌, ◌*◌, ◌&&◌, ◌==◌, nat_le, Bool, false, not, List, [], ◌∷◌, Option, Some, None, if◌then◌else◌}
use Rattle.std.specs.List.{list_all}

-- `0` to `9`
abbrev pub is_digit : ℕ → Bool
is_digit b = nat_le 48 b && nat_le b 57

-- `0`, or digits that do not begin with `0`
abbrev pub is_decimal : List ℕ → Bool
is_decimal [] = false
is_decimal (b ∷ []) = is_digit b
is_decimal (b ∷ c ∷ digits) = is_digit b && not (b == 48) && list_all is_digit (c ∷ digits)

-- the value of digits that follow those of the number n
abbrev pub decimal_value_after : ℕ → List ℕ → ℕ
decimal_value_after n [] = n
decimal_value_after n (b ∷ digits) = decimal_value_after (10 * n + (b - 48)) digits

-- the value of digits, the highest first; they may begin with zeros
abbrev pub decimal_value : List ℕ → ℕ
decimal_value digits = decimal_value_after 0 digits

-- the number of a text, if it is a number of at most `most`
abbrev pub decimal_number : ℕ → List ℕ → Option ℕ
decimal_number most text = if is_decimal text && nat_le (decimal_value text) most then Some (decimal_value text) else None
