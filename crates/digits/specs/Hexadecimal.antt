-- Hexadecimal digits: upper-case in writing, and of either case in reading.
use Rattle.std.specs.Prelude.{ℕ, zero, suc, ◌+◌, ◌-◌, ◌*◌, ◌/◌, ◌%◌, ◌^◌, ◌&&◌, ◌||◌, nat_le, nat_lt, Bool, List, [], ◌∷◌, if◌then◌else◌}

-- the upper-case digit of a value below 16
abbrev pub hex_digit : ℕ → ℕ
hex_digit value = if nat_lt value 10 then 48 + value else 55 + value

-- the lowest k digits of n, the highest of them first
unfoldable pub hex_digits : ℕ → ℕ → List ℕ
hex_digits zero n = []
hex_digits (suc k) n = hex_digit (n / 16 ^ k % 16) ∷ hex_digits k n

-- `0` to `9` or `A` to `F`
abbrev pub is_hex : ℕ → Bool
is_hex b = (nat_le 48 b && nat_le b 57) || (nat_le 65 b && nat_le b 70)

-- `0` to `9`, `A` to `F` or `a` to `f`
abbrev pub is_hex_any_case : ℕ → Bool
is_hex_any_case b = is_hex b || (nat_le 97 b && nat_le b 102)

-- the value of a digit of either case
abbrev pub hex_value : ℕ → ℕ
hex_value b = if nat_lt b 65 then b - 48 else if nat_lt b 97 then b - 55 else b - 87

-- the number of digits that follow those of the number n
abbrev pub hex_number_after : ℕ → List ℕ → ℕ
hex_number_after n [] = n
hex_number_after n (b ∷ digits) = hex_number_after (16 * n + hex_value b) digits

-- the number of digits, the highest first
abbrev pub hex_number : List ℕ → ℕ
hex_number digits = hex_number_after 0 digits
