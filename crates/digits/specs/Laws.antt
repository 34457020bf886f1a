-- The text written of a number is read as that number, and no other text is.
use Rattle.std.specs.Prelude.{◌≡◌, ℕ, ◌^◌, ◌<◌, ◌≤◌, List, [], ◌∷◌, length, Bool, true, false, ◌&&◌, ◌||◌, nat_le, IsTrue, Some, decimal, refl}
use Rattle.std.proofs.Common.{ap, ◌∙◌}
use Rattle.std.proofs.lemmas.Bool.{false≢true}
use Rattle.std.specs.List.{list_all}
use Rattle.digits.specs.Hexadecimal.{hex_digits, is_hex, is_hex_any_case, hex_number}
use Rattle.digits.specs.Decimal.{decimal_number}

-- the k digits of a number are k upper-case digits
abbrev pub HexDigitsAreHex : Type 0
HexDigitsAreHex = (k n : ℕ) → (length (hex_digits k n) ≡ k) × IsTrue (list_all is_hex (hex_digits k n))

-- the k digits of a number below 16 ^ k are that number
abbrev pub HexReadsBack : Type 0
HexReadsBack = (k n : ℕ) → n < 16 ^ k → hex_number (hex_digits k n) ≡ n

-- a text of k upper-case digits is the text written of its number, which is below 16 ^ k
abbrev pub OnlyHexDigitsRead : Type 0
OnlyHexDigitsRead =
    (text : List ℕ) → IsTrue (list_all is_hex text) → (hex_digits (length text) (hex_number text) ≡ text) × (hex_number text < 16 ^ length text)

-- the text written of a number is read as that number
abbrev pub DecimalReadsBack : Type 0
DecimalReadsBack = (most n : ℕ) → n < 2 ^ 64 → n ≤ most → decimal_number most (decimal n) ≡ Some n

-- and no other text is
abbrev pub OnlyDecimalReads : Type 0
OnlyDecimalReads = (most n : ℕ) (text : List ℕ) → n < 2 ^ 64 → decimal_number most text ≡ Some n → (text ≡ decimal n) × (n ≤ most)

-- ---- For callers of `hex_number`: upper-case digits are digits of either case.

both : (a b : Bool) → IsTrue (a && b) → IsTrue a × IsTrue b
both true b h = (refl, h)
both false b h = absurd (false≢true h)

any_case : (b : ℕ) → IsTrue (is_hex b) → IsTrue (is_hex_any_case b)
any_case b h = ap (λ (t : Bool). t || (nat_le 97 b && nat_le b 102)) h

pub all_any_case : (text : List ℕ) → IsTrue (list_all is_hex text) → IsTrue (list_all is_hex_any_case text)
all_any_case [] all = refl
all_any_case (b ∷ text) all =
    let parts : IsTrue (is_hex b) × IsTrue (list_all is_hex text) = both (is_hex b) (list_all is_hex text) all in
    ap (λ (t : Bool). t && list_all is_hex_any_case text) (any_case b parts.0) ∙ all_any_case text parts.1
