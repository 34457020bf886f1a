-- Decimal digits, written and read.
use Rattle.std.proofs.Common.{◌≡◌, ◌≢◌, sym, refl, ℕ, zero, suc, ◌^◌, ◌<◌, length, get_or, List, [], ◌∷◌, Bool, true, ◌&&◌, ◌==◌, not, IsTrue, cond, Some, None, nat_le, arith, rules}
use Rattle.std.specs.List.{list_all}
use Rattle.std.specs.Fmt.{decimal}
use Rattle.std.proofs.lemmas.Bool.Decides.{nat_tests}
use Rattle.std.proofs.lemmas.Fmt.{decimal_digit, decimal_nonempty, first_decimal, digits_decimal, digits_value-decimal, decimal-digits_value}
use Rattle.std.proofs.lemmas.Str.Parse.{IsNumeralModel, numerals_by_fold}
use Rattle.digits.specs.Decimal.{is_digit, is_decimal, decimal_value, decimal_value_after}
use Rattle.digits.specs.Laws.{DecimalReadsBack, OnlyDecimalReads}

own : IsNumeralModel (λ text. list_all is_digit text ≡ true) decimal_value
own = numerals_by_fold _ (search rules) decimal_value_after (search rules)

-- digits without a leading zero
record IsNumeral (text : List ℕ) : Type 0 where
  digits : list_all is_digit text ≡ true
  some : 0 < length text
  alone : get_or text 0 0 ≡ 48 → length text ≡ 1

is_decimal-true : (text : List ℕ) → IsNumeral text → IsTrue (is_decimal text)
is_decimal-true [] h = absurd (omega (arith, h.some))
is_decimal-true (b ∷ []) h = by b h.digits
  where
    by : (b : ℕ) → list_all is_digit (b ∷ []) ≡ true → IsTrue (is_digit b)
    by b all = grind arith
is_decimal-true (b ∷ c ∷ text) h = by b (list_all is_digit (c ∷ text)) h.digits (λ e. let one : suc (suc (length text)) ≡ 1 = h.alone e in absurd (omega arith))
  where
    by : (b : ℕ) (rest : Bool) → is_digit b && rest ≡ true → b ≢ 48 → is_digit b && not (b == 48) && rest ≡ true
    by b rest all other = grind (arith, nat_tests)

numeral_of : (text : List ℕ) → IsTrue (is_decimal text) → IsNumeral text
numeral_of [] h = absurd cc
numeral_of (b ∷ []) h = record { digits = rw h; some = omega arith; alone = λ e. refl }
numeral_of (b ∷ c ∷ text) h =
    let parts = by b (list_all is_digit (c ∷ text)) h in
    record { digits = parts.0; some = omega arith; alone = λ e. absurd (parts.1 e) }
  where
    by : (b : ℕ) (rest : Bool) → is_digit b && not (b == 48) && rest ≡ true → (is_digit b && rest ≡ true) × (b ≢ 48)
    by b rest h = (grind arith, λ e. grind (arith, nat_tests))

written : (n : ℕ) → n < 2 ^ 64 → IsNumeral (decimal n)
written zero h = rw (decimal_digit zero (omega arith)) (record { digits = refl; some = omega arith; alone = λ e. refl })
written (suc n) h = record {
  digits = digits_decimal own (suc n) h;
  some = decimal_nonempty (suc n) h;
  alone = λ e. let low : 48 < get_or (decimal (suc n)) 0 0 = first_decimal (suc n) (omega arith) h in absurd (omega arith);
}

pub reads_back : DecimalReadsBack
reads_back most n small h =
    let within : nat_le n most ≡ true = grind (arith, nat_tests) in
    rw (is_decimal-true (decimal n) (written n small), digits_value-decimal own n small, within)

-- the two tests, and the number
read_when : (a b : Bool) (value n : ℕ) → cond (a && b) (Some value) None ≡ Some n → IsTrue a × IsTrue b × (value ≡ n)
read_when a b value n h = grind arith

pub only_decimal : OnlyDecimalReads
only_decimal most n text small h =
    let read = read_when (is_decimal text) (nat_le (decimal_value text) most) (decimal_value text) n h in
    let parts = numeral_of text read.0 in
    let same : decimal_value text ≡ n = read.2 in
    let spelled = decimal-digits_value own text parts.digits parts.some parts.alone (rw same small) in
    let test : IsTrue (nat_le (decimal_value text) most) = read.1 in
    (sym (rw same at spelled), grind (arith, nat_tests))
