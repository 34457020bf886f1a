-- Hexadecimal digits, written and read.
use Rattle.std.proofs.Common.{◌≡◌, ◌∙◌, sym, refl, ap, ℕ, zero, suc, ◌+◌, ◌*◌, ◌/◌, ◌%◌, ◌^◌, ◌<◌, length, List, [], ◌∷◌, true, IsTrue, eqb, eqb-true, arith}
use Rattle.std.specs.List.{list_all}
use Rattle.std.proofs.lemmas.Bool.{agree_below_at}
use Rattle.std.proofs.lemmas.Bool.Decides.{nat_tests}
use Rattle.std.proofs.lemmas.Nat.{div-add-mod', mod_below, mod-mul-add, div-mul-add, mul-add-lt}
use Rattle.std.proofs.Math.Nat.{pow-succ', mod-eq_of_lt}
use Rattle.digits.specs.Hexadecimal.{hex_digit, hex_digits, is_hex, hex_value, hex_number, hex_number_after}
use Rattle.digits.specs.Laws.{HexDigitsAreHex, HexReadsBack, OnlyHexDigitsRead}

digit_is_hex : (d : ℕ) → d < 16 → is_hex (hex_digit d) ≡ true
digit_is_hex d h = agree_below_at (λ k. is_hex (hex_digit k)) (λ _. true) 16 d refl h

digit_value : (d : ℕ) → d < 16 → hex_value (hex_digit d) ≡ d
digit_value d h = eqb-true _ _ (agree_below_at (λ k. eqb (hex_value (hex_digit k)) k) (λ _. true) 16 d refl h)

value_of : (b : ℕ) → IsTrue (is_hex b) → (hex_digit (hex_value b) ≡ b) × (hex_value b < 16)
value_of b h = grind (arith, nat_tests)

-- ---- written

written-length : (k n : ℕ) → length (hex_digits k n) ≡ k
unfolding hex_digits
written-length zero n = refl
written-length (suc k) n = ap suc (written-length k n)

written-all : (k n : ℕ) → IsTrue (list_all is_hex (hex_digits k n))
unfolding hex_digits
written-all zero n = refl
written-all (suc k) n = rw (digit_is_hex (n / 16 ^ k % 16) (omega arith)) (written-all k n)

pub digits_are_hex : HexDigitsAreHex
digits_are_hex k n = (written-length k n, written-all k n)

-- ---- written and read

pow_pos : (k : ℕ) → 0 < 16 ^ k
pow_pos zero = omega arith
pow_pos (suc k) = let low : 0 < 16 ^ k = pow_pos k in omega arith

split_at : (q a d p r : ℕ) → q ≡ a * 16 + d → q * p + r ≡ a * (16 * p) + (d * p + r)
split_at q a d p r e = rw e (omega arith)

-- one more digit of the rest of n
one_digit : (m n p : ℕ) → 0 < p → (16 * m + n / p % 16) * p + n % p ≡ m * (16 * p) + n % (16 * p)
one_digit m n p pos =
    let d : ℕ = n / p % 16 in
    let a : ℕ = n / p / 16 in
    let parts : n / p ≡ a * 16 + d = omega arith in
    let small : d * p + n % p < p * 16 = mul-add-lt d p (n % p) 16 (omega arith) (mod_below n p pos) in
    let split : n ≡ a * (16 * p) + (d * p + n % p) = sym (div-add-mod' n p) ∙ split_at (n / p) a d p (n % p) parts in
    let left : n % (16 * p) ≡ d * p + n % p = ap (λ x. x % (16 * p)) split ∙ mod-mul-add a (16 * p) (d * p + n % p) (omega arith) in
    rw left (omega arith)

read-after : (k n m : ℕ) → hex_number_after m (hex_digits k n) ≡ m * 16 ^ k + n % 16 ^ k
unfolding hex_digits
read-after zero n m = omega arith
read-after (suc k) n m =
    let d = n / 16 ^ k % 16 in
    ap (λ (x : ℕ). hex_number_after (16 * m + x) (hex_digits k n)) (digit_value d (omega arith))
    ∙ (rw (read-after k n (16 * m + d), pow-succ' 16 k) (one_digit m n (16 ^ k) (pow_pos k)))

pub reads_back : HexReadsBack
reads_back k n h = read-after k n 0 ∙ omega (arith, mod-eq_of_lt h)

-- ---- read and written

-- digits after a number
pub number_after : (text : List ℕ) (m : ℕ) → hex_number_after m text ≡ m * 16 ^ length text + hex_number text
number_after [] m = omega arith
number_after (b ∷ text) m = rw (number_after text (16 * m + hex_value b), number_after text (16 * 0 + hex_value b), pow-succ' 16 (length text)) (omega arith)

first : (b : ℕ) (text : List ℕ) → IsTrue (list_all is_hex (b ∷ text)) → IsTrue (is_hex b) × IsTrue (list_all is_hex text)
first b text all = grind arith

below : (text : List ℕ) → IsTrue (list_all is_hex text) → hex_number text < 16 ^ length text
below [] all = omega arith
below (b ∷ text) all =
    let is = first b text all in
    let fits = mul-add-lt (hex_value b) (16 ^ length text) (hex_number text) 16 (value_of b is.0).1 (below text is.1) in
    rw (number_after text (16 * 0 + hex_value b), pow-succ' 16 (length text)) (omega (arith, fits))

again : (text : List ℕ) (m : ℕ) → IsTrue (list_all is_hex text) → hex_digits (length text) (hex_number_after m text) ≡ text
unfolding hex_digits
again [] m all = refl
again (b ∷ text) m all =
    let is = first b text all in
    let v = hex_value b in
    let p = 16 ^ length text in
    let value = value_of b is.0 in
    let front : hex_number_after (16 * m + v) text / p ≡ 16 * m + v = rw (number_after text (16 * m + v)) (div-mul-add (16 * m + v) p (hex_number text) (below text is.1)) in
    let here : hex_number_after (16 * m + v) text / p % 16 ≡ v = rw front (omega (arith, value.1)) in
    rw (here, value.0, again text (16 * m + v) is.1)

pub only_digits : OnlyHexDigitsRead
only_digits text all = (again text 0 all, below text all)
