-- Steps one after another, up to the end of a conversion and after it.
use Rattle.std.proofs.Common.{◌≡◌, ◌∙◌, ap, refl, ℕ, zero, suc, ◌+◌, ◌-◌, ◌<◌, ◌≤◌, List, [], ◌∷◌, length, slice_index, arith, inl, inr}
use Rattle.std.proofs.lemmas.Bool.{cases_eq, eq-eqb, ne_eqb}
use Rattle.adc7002.specs.State.{State}
use Rattle.adc7002.specs.Registers.{channel, cb1}
use Rattle.adc7002.specs.Step.{end_leaves, step, after_steps, steps}
use Rattle.adc7002.specs.Calm.{KeepsItsLine}

-- a step without a conversion, one inside a conversion, and the last one of a conversion
step_at_rest : (levels : List ℕ) (a : State) → a.left ≡ 0 → step levels a ≡ a
step_at_rest levels a none = rw (eq-eqb a.left 0 none) refl

step_inside : (levels : List ℕ) (a : State) → 1 < a.left → step levels a ≡ record a { left = a.left - 1 }
step_inside levels a more = rw (ne_eqb a.left 0 (λ e. omega (arith, e)), ne_eqb a.left 1 (λ e. omega (arith, e))) refl

pub step_last : (levels : List ℕ) (a : State) → a.left ≡ 1 → step levels a ≡ end_leaves (slice_index levels (channel a.kept)) a
step_last levels a last = rw (ne_eqb a.left 0 (λ e. omega (arith, e)), eq-eqb a.left 1 last) refl

-- the converter with this number of steps left
with_left : ℕ → State → State
with_left n a = record a { left = n }

pub after_at_rest : (levels : List (List ℕ)) (a : State) → a.left ≡ 0 → after_steps levels a ≡ a
after_at_rest [] a none = refl
after_at_rest (l ∷ levels) a none = ap (after_steps levels) (step_at_rest l a none) ∙ after_at_rest levels a none

pub after_inside : (levels : List (List ℕ)) (a : State) (n : ℕ) → n + length levels ≡ a.left → 0 < n → after_steps levels a ≡ record a { left = n }
unfolding with_left
after_inside [] a n all some = let e : a.left ≡ n = omega arith in ap (λ k. with_left k a) e
after_inside (l ∷ levels) a n all some =
    ap (after_steps levels) (step_inside l a (omega arith)) ∙ after_inside levels (record a { left = a.left - 1 }) n (omega arith) some

pub no_steps_left : (levels : List ℕ) (n : ℕ) (a : State) → a.left ≡ 0 → steps levels n a ≡ a
unfolding steps
no_steps_left levels zero a none = refl
no_steps_left levels (suc n) a none = ap (steps levels n) (step_at_rest levels a none) ∙ no_steps_left levels n a none

pub steps_inside : (levels : List ℕ) (n left : ℕ) (a : State) → left + n ≡ a.left → 0 < left → steps levels n a ≡ record a { left = left }
unfolding steps with_left
steps_inside levels zero left a all some = let e : a.left ≡ left = omega arith in ap (λ k. with_left k a) e
steps_inside levels (suc n) left a all some =
    ap (steps levels n) (step_inside levels a (omega arith)) ∙ steps_inside levels n left (record a { left = a.left - 1 }) (omega arith) some

pub steps_to_end : (levels : List ℕ) (n : ℕ) (a : State) → 0 < a.left → a.left ≤ n → steps levels n a ≡ end_leaves (slice_index levels (channel a.kept)) a
unfolding steps
steps_to_end levels zero a some enough = absurd (omega arith)
steps_to_end levels (suc n) a some enough =
    elim (cases_eq a.left 1) [
      | inl last ↦ ap (steps levels n) (step_last levels a last) ∙ no_steps_left levels n (end_leaves (slice_index levels (channel a.kept)) a) refl
      | inr more ↦ ap (steps levels n) (step_inside levels a (omega arith)) ∙ steps_to_end levels n (record a { left = a.left - 1 }) (omega arith) (omega arith)
    ]

-- the line stays without a conversion, and during one
pub stays_at_rest : (n : ℕ) (a : State) → a.left ≡ 0 → KeepsItsLine n a
stays_at_rest n a none = λ levels few. ap cb1 (after_at_rest levels a none)

pub stays_before : (n : ℕ) (a : State) → n < a.left → KeepsItsLine n a
stays_before n a more = λ levels few.
    ap cb1 (after_inside levels a (a.left - length levels) (omega (arith, few, more)) (omega (arith, few, more)))
