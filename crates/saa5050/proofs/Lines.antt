-- A line of a letter.
use Rattle.std.proofs.Common.{ℕ, zero, suc, ◌≡◌, ◌<◌, ◌+◌, ◌-◌, ◌*◌, ◌/◌, ◌%◌, ◌==◌, refl, ap, subst, ◌∙◌, Bool, true, false, not, ◌&&◌, ◌||◌, inl, inr, arith}
use Rattle.std.specs.Prelude.{bit_and, bit_or, bit_xor}
use Rattle.std.proofs.lemmas.Bool.{cases_lt, cases_Bool, eqb-true, eqb-false, ne_eqb}
use mathlib.Core.Logic.{⊎_elim}
use Rattle.beeb_bits.specs.Bits.{bit}
use Rattle.saa5050.specs.Shapes.{dot, rounded_dot}
use Rattle.saa5050.specs.CodeDots.{IsLine, doubled_dot}
use Rattle.saa5050.proofs.Words.{and-bit, or-bit, without-bit, half-bit, twice-bit, twice-lowest, half-highest}

-- ---- the half dot to the right, and that to the left

to-right : (w own x : ℕ) → IsLine w (doubled_dot own) → x < 12 → bit (w * 2) (11 - x) ≡ doubled_dot own (x + 1)
to-right w own x line low = ⊎_elim
    (λ under.
    let next : 11 - x ≡ suc (11 - (x + 1)) = omega (arith, under) in
    ap (bit (w * 2)) next ∙ twice-bit w (11 - (x + 1)) ∙ line (x + 1) (omega (arith, under)))
    (λ over.
    let last : 11 ≡ x = omega (arith, over, low) in
    subst (λ (n : ℕ). bit (w * 2) (11 - n) ≡ doubled_dot own (n + 1)) last (twice-lowest w))
    (cases_lt x 11)

abbrev before : ℕ → ℕ → Bool
before own zero = false
before own (suc y) = doubled_dot own y

to-left : (w own x : ℕ) → IsLine w (doubled_dot own) → w < 4096 → x < 12 → bit (w / 2) (11 - x) ≡ before own x
to-left w own zero line low within = half-highest w low
to-left w own (suc y) line low within =
    let next : suc (11 - suc y) ≡ 11 - y = omega (arith, within) in
    half-bit w (11 - suc y) ∙ ap (bit w) next ∙ line y (omega (arith, within))

-- ---- both sides at once

even : (p q s t : Bool) → ((p || (p && (q && not q))) || (s && (q && not t))) ≡ (p || (s && q && not t))
even true q s t = refl
even false true true true = refl
even false true true false = refl
even false true false t = refl
even false false true t = refl
even false false false t = refl

odd : (p q s t : Bool) → ((p || (s && (q && not t))) || (p && (q && not q))) ≡ (p || (s && q && not t))
odd true q s t = refl
odd false true true true = refl
odd false true true false = refl
odd false true false t = refl
odd false false true t = refl
odd false false false t = refl

abbrev both-sides : ℕ → ℕ → ℕ → Bool
both-sides own near x =
    (doubled_dot own x || (doubled_dot own (x + 1) && (doubled_dot near x && not (doubled_dot near (x + 1)))))
    || (before own x && (doubled_dot near x && not (before near x)))

sides : (own near x : ℕ) → both-sides own near x ≡ rounded_dot own near x
sides own near zero = even (dot own 0) (dot near 0) false false
sides own near (suc y) = elim (cases_Bool (suc y % 2 == 0)) [
  | inl e ↦
      let twice = eqb-true (suc y % 2) 0 e in
      let up : (suc y + 1) / 2 ≡ suc y / 2 = omega (arith, twice) in
      let down : suc y / 2 - 1 ≡ y / 2 = omega (arith, twice) in
      simp (e, up, down, ne_eqb (suc y) 0 (omega arith)) (even (dot own (suc y / 2)) (dot near (suc y / 2)) (dot own (y / 2)) (dot near (y / 2)))
  | inr e ↦
      let not_twice = eqb-false (suc y % 2) 0 e in
      let up : (suc y + 1) / 2 ≡ suc y / 2 + 1 = omega (arith, not_twice) in
      let down : y / 2 ≡ suc y / 2 = omega (arith, not_twice) in
      simp (e, up, down) (odd (dot own (suc y / 2)) (dot near (suc y / 2)) (dot own (suc y / 2 + 1)) (dot near (suc y / 2 + 1)))
]

pass : (a b c i : ℕ) → bit (bit_and a (bit_xor b (bit_and b c))) i ≡ (bit a i && (bit b i && not (bit c i)))
pass a b c i = and-bit a (bit_xor b (bit_and b c)) i ∙ ap (λ x. bit a i && x) (without-bit b c i)

pub letter-line : (a b own near : ℕ) → IsLine a (doubled_dot own) → IsLine b (doubled_dot near) → a < 4096 → b < 4096 →
    IsLine (bit_or (bit_or a (bit_and (a * 2) (bit_xor b (bit_and b (b * 2))))) (bit_and (a / 2) (bit_xor b (bit_and b (b / 2))))) (rounded_dot own near)
letter-line a b own near la lb fa fb = λ x low.
    let i = 11 - x in
    let right = bit_and (a * 2) (bit_xor b (bit_and b (b * 2))) in
    let left = bit_and (a / 2) (bit_xor b (bit_and b (b / 2))) in
    rw (or-bit (bit_or a right) left i, or-bit a right i, pass (a * 2) b (b * 2) i, pass (a / 2) b (b / 2) i, la x low, to-right a own x la low, lb x low, to-right b near x lb low)
    (rw (to-left a own x la fa low, to-left b near x lb fb low) (sides own near x))
