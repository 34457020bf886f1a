-- The samples of four steps at once.
use Rattle.std.proofs.Common.{◌≡◌, ◌≢◌, ◌∙◌, ap, refl, ℕ, ◌+◌, ◌*◌, ◌/◌, ◌%◌, ◌==◌, List, [], ◌∷◌, ◌++◌, append-nil, add-one, arith, inl, inr}
use Rattle.std.specs.Prelude.{ℤ, pos, if◌then◌else◌}
use Rattle.std.proofs.lemmas.Bool.{cases_eq}
use Rattle.std.proofs.lemmas.Int.{to_z-of_z}
use mir.Val.{SFits, to_z, of_z}
use mir.Syntax.{w16}
use Rattle.sn76489.specs.declared.SoundWrite.{SoundWrite}
use Rattle.sn76489.specs.State.{State}
use Rattle.sn76489.specs.Level.{level}
use Rattle.sn76489.specs.Samples.{chip_before_step, samples}
use Rattle.sn76489.proofs.Playing.{test_true, test_false}

-- a sample that is pushed
pub pushed : (old new : List ℤ) (sample : ℤ) (c d : State) → SFits w16 sample → new ≡ old ++ to_z w16 (of_z w16 sample) ∷ [] → sample ≡ pos (level c) →
    c ≡ d → new ≡ old ++ pos (level d) ∷ []
pushed old new sample c d fits is value same =
    is ∙ ap (λ z. old ++ z ∷ []) (to_z-of_z w16 sample fits ∙ value ∙ ap (λ k. pos (level k)) same)

more : (writes : List SoundWrite) (m : ℕ) → samples writes (m + 1) ≡ samples writes m ++ (if m % 32 == 0 then pos (level (chip_before_step writes (m + 1))) ∷ [] else [])
unfolding samples
more writes m = rw add-one refl

one : (writes : List SoundWrite) (m : ℕ) → m % 32 ≡ 0 → samples writes (m + 1) ≡ samples writes m ++ pos (level (chip_before_step writes (m + 1))) ∷ []
one writes m whole = more writes m ∙ rw (test_true (m % 32) 0 whole) refl

none : (writes : List SoundWrite) (m n : ℕ) → n ≡ m + 1 → m % 32 ≢ 0 → samples writes n ≡ samples writes m
none writes m n is part = ap (samples writes) is ∙ more writes m ∙ rw (test_false (m % 32) 0 part) (append-nil (samples writes m))

-- up to the next clock the only sample is that of the clock's step
pub sampled : (writes : List SoundWrite) (q : ℕ) → q % 8 ≡ 0 → samples writes (4 * (q + 1)) ≡ samples writes (4 * q) ++ pos (level (chip_before_step writes (4 * q + 1))) ∷ []
sampled writes q whole =
    none writes (4 * q + 3) (4 * (q + 1)) (omega arith) (λ e. omega (arith, e)) ∙ none writes (4 * q + 2) (4 * q + 3) (omega arith) (λ e. omega (arith, e))
    ∙ none writes (4 * q + 1) (4 * q + 2) (omega arith) (λ e. omega (arith, e)) ∙ one writes (4 * q) (omega arith)

pub unsampled : (writes : List SoundWrite) (q : ℕ) → q % 8 ≢ 0 → samples writes (4 * (q + 1)) ≡ samples writes (4 * q)
unsampled writes q part =
    none writes (4 * q + 3) (4 * (q + 1)) (omega arith) (λ e. omega (arith, e)) ∙ none writes (4 * q + 2) (4 * q + 3) (omega arith) (λ e. omega (arith, e))
    ∙ none writes (4 * q + 1) (4 * q + 2) (omega arith) (λ e. omega (arith, e)) ∙ none writes (4 * q) (4 * q + 1) (omega arith) (λ e. part (omega (arith, e)))

-- the steps after the last clock have no sample
pub padded : (writes : List SoundWrite) (s q : ℕ) → q ≡ (s + 3) / 4 → samples writes (4 * q) ≡ samples writes s
padded writes s q is =
    elim (cases_eq (s % 4) 0) [
      | inl whole ↦ let same : 4 * q ≡ s = omega arith in ap (samples writes) same
      | inr some ↦ elim (cases_eq (s % 4) 3) [
        | inl three ↦ none writes s (4 * q) (omega arith) (λ e. omega (arith, e))
        | inr fewer ↦ elim (cases_eq (s % 4) 2) [
          | inl two ↦
              none writes (s + 1) (4 * q) (omega arith) (λ e. omega (arith, e)) ∙ none writes s (s + 1) refl (λ e. omega (arith, e))
          | inr one ↦
              none writes (s + 2) (4 * q) (omega arith) (λ e. omega (arith, e)) ∙ none writes (s + 1) (s + 2) (omega arith) (λ e. omega (arith, e))
              ∙ none writes s (s + 1) refl (λ e. omega (arith, e))
        ]
      ]
    ]
