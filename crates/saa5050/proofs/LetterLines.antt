-- The lines of the letters in the table: one more, and a look-up.
use Rattle.std.proofs.Common.{ℕ, ◌≡◌, ◌<◌, ◌≤◌, ◌+◌, ◌-◌, ◌*◌, ◌/◌, ◌%◌, ap, ◌∙◌, List, length, inl, inr, slice_index, slice_set, arith}
use Rattle.std.proofs.lemmas.Bool.{cases_eq}
use Rattle.std.proofs.lemmas.List.{get_or-set_same, get_or-set_other}
use Rattle.std.proofs.lemmas.Nat.{div-mul-add, mod-mul-add}
use Rattle.beeb_bits.specs.Bits.{bit}
use Rattle.saa5050.specs.Shapes.{Font, letter_dot}
use Rattle.saa5050.specs.CodeDots.{IsLine}
use Rattle.saa5050.specs.CodeLetters.{HasLines}

pub one-more : (font : Font) (lines : List ℕ) (i word : ℕ) → i < length lines → HasLines font lines i → IsLine word (letter_dot font (i / 20 + 0x20) (i % 20)) →
    HasLines font (slice_set lines i word) (i + 1)
one-more font lines i word room before line k below = elim (cases_eq k i) [
  | inl same ↦ rw same (λ x inside. ap (λ (w : ℕ). bit w (11 - x)) (get_or-set_same lines i word 0 room) ∙ line x inside)
  | inr other ↦ λ x inside. ap (λ (w : ℕ). bit w (11 - x)) (get_or-set_other lines i k word 0 other) ∙ before k (omega (arith, below, other)) x inside
]

pub looked-up : (font : Font) (lines : List ℕ) (code line : ℕ) → 0x20 ≤ code → code ≤ 0x7F → line < 20 → HasLines font lines 1920 →
    IsLine (slice_index lines ((code - 0x20) * 20 + line)) (letter_dot font code line)
looked-up font lines code line low high short has x inside =
    let at : ℕ = (code - 0x20) * 20 + line in
    let letter : at / 20 + 0x20 ≡ code = ap (λ (n : ℕ). n + 0x20) (div-mul-add (code - 0x20) 20 line short) ∙ omega (arith, low) in
    let row : at % 20 ≡ line = mod-mul-add (code - 0x20) 20 line short in
    has at (omega (arith, low, high, short)) x inside
    ∙ ap (λ (c : ℕ). letter_dot font c (at % 20) x) letter
    ∙ ap (λ (s : ℕ). letter_dot font code s x) row
