-- The bits of words, and words of half dots that are computed.
use Rattle.std.proofs.Common.{ℕ, zero, suc, ◌≡◌, ◌<◌, ◌+◌, ◌-◌, ◌*◌, ◌/◌, ◌%◌, ◌==◌, refl, ap, sym, subst, ◌∙◌, Bool, true, false, not, ◌&&◌, ◌||◌, min, max, slice_index_or, nat_lt, arith}
use Rattle.std.specs.Prelude.{bit_and, bit_or, bit_xor}
use Rattle.std.specs.Int.{bit_at}
use Rattle.std.proofs.lemmas.Bool.{agree_below, agree_below_at, ltb-true}
use Rattle.std.proofs.lemmas.Nat.Bits.{bit_at_and, bit_at_or, bit_at_xor, bit_at-suc, bit_at_lowest, bit_at_above, bit_at-lt}
use Rattle.beeb_bits.specs.Bits.{bit}
use Rattle.saa5050.specs.CodeDots.{IsLine, doubled_dot, columns}
use Rattle.saa5050.specs.declared.dots.TheConstants.{DOUBLED}

-- ---- an operation on words, bit by bit

by-digits : (f : ℕ → ℕ → ℕ) (g : Bool → Bool → Bool) → (f 0 0 == 1) ≡ g false false → (f 0 1 == 1) ≡ g false true → (f 1 0 == 1) ≡ g true false
    → (f 1 1 == 1) ≡ g true true →
    (p q : ℕ) → p < 2 → q < 2 → (f p q == 1) ≡ g (p == 1) (q == 1)
by-digits f g a b c d zero zero lp lq = a
by-digits f g a b c d zero (suc zero) lp lq = b
by-digits f g a b c d (suc zero) zero lp lq = c
by-digits f g a b c d (suc zero) (suc zero) lp lq = d
by-digits f g a b c d _ _ lp lq = absurd (omega arith)

pub and-bit : (a b i : ℕ) → bit (bit_and a b) i ≡ (bit a i && bit b i)
and-bit a b i = ap (λ d. d == 1) (bit_at_and a b i) ∙ by-digits min ◌&&◌ refl refl refl refl (bit_at a i) (bit_at b i) (bit_at-lt a i) (bit_at-lt b i)

pub or-bit : (a b i : ℕ) → bit (bit_or a b) i ≡ (bit a i || bit b i)
or-bit a b i = ap (λ d. d == 1) (bit_at_or a b i) ∙ by-digits max ◌||◌ refl refl refl refl (bit_at a i) (bit_at b i) (bit_at-lt a i) (bit_at-lt b i)

-- what is in b and not in c
pub without-bit : (b c i : ℕ) → bit (bit_xor b (bit_and b c)) i ≡ (bit b i && not (bit c i))
without-bit b c i =
    ap (λ d. d == 1) (bit_at_xor b (bit_and b c) i)
    ∙ ap (λ d. (bit_at b i + d) % 2 == 1) (bit_at_and b c i)
    ∙ by-digits (λ p q. (p + min p q) % 2) (λ p q. p && not q) refl refl refl refl (bit_at b i) (bit_at c i) (bit_at-lt b i) (bit_at-lt c i)

pub half-bit : (a i : ℕ) → bit (a / 2) i ≡ bit a (suc i)
half-bit a i = ap (λ d. d == 1) (sym (bit_at-suc a i))

pub twice-bit : (a i : ℕ) → bit (a * 2) (suc i) ≡ bit a i
twice-bit a i =
    let same : a * 2 / 2 ≡ a = omega arith in
    ap (λ d. d == 1) (bit_at-suc (a * 2) i ∙ ap (λ n. bit_at n i) same)

pub twice-lowest : (a : ℕ) → bit (a * 2) 0 ≡ false
twice-lowest a =
    let even : a * 2 % 2 ≡ 0 = omega arith in
    ap (λ d. d == 1) (bit_at_lowest (a * 2) ∙ even)

pub half-highest : (a : ℕ) → a < 4096 → bit (a / 2) 11 ≡ false
half-highest a low = ap (λ d. d == 1) (bit_at_above (a / 2) 11 11 (omega (arith, low)) (omega arith))

-- ---- lines that are computed

pub column-line : (word : ℕ) {a b c l r s : Bool} → a ≡ l → b ≡ r → c ≡ s → agree_below (λ x. bit word (11 - x)) (columns l r s) 12 ≡ true → IsLine word (columns a b c)
column-line word {l = l} {r} {s} p q o h = rw (p, q, o) (λ x low. agree_below_at (λ x. bit word (11 - x)) (columns l r s) 12 x h low)

-- the table of rows in half dots
pub table : (row : ℕ) → row < 256 → IsLine (slice_index_or DOUBLED (row % 64) 0) (doubled_dot row)
table row fits = λ x low.
    let k = row * 12 + x in
    let here : k / 12 ≡ row = omega (arith, low) in
    let there : k % 12 ≡ x = omega (arith, low) in
    let all = agree_below_at (λ k. bit (slice_index_or DOUBLED (k / 12 % 64) 0) (11 - k % 12)) (λ k. doubled_dot (k / 12) (k % 12)) 3072 k refl (omega (arith, low, fits)) in
    subst (λ (n : ℕ). bit (slice_index_or DOUBLED (row % 64) 0) (11 - n) ≡ doubled_dot row n) there
    (subst (λ (n : ℕ). bit (slice_index_or DOUBLED (n % 64) 0) (11 - k % 12) ≡ doubled_dot n (k % 12)) here all)

pub table-low : (row : ℕ) → row < 256 → slice_index_or DOUBLED (row % 64) 0 < 4096
table-low row fits = ltb-true _ _ (agree_below_at (λ k. nat_lt (slice_index_or DOUBLED (k % 64) 0) 4096) (λ _. true) 256 row refl fits)
