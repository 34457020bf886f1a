-- Dots side by side.
use Rattle.std.proofs.Common.{◌≡◌, ◌∙◌, ap, refl, ℕ, suc, ◌+◌, ◌≤◌, List, [], ◌∷◌, ◌++◌, length, take, append_assoc, add-one, arith}
use Rattle.std.proofs.lemmas.Slice.{take-put_mid}
use borrow.Rule.Slice.PartMut.{put_mid}
use Rattle.video_ula.specs.Pixels.{side_by_side}
use Rattle.video_ula.proofs.DotLemmas.{first_of}

-- One more character after the others.
pub row_more : (f : ℕ → List ℕ) (i at k next : ℕ) (xs dots : List ℕ) → take at xs ≡ side_by_side f i → at ≤ length xs → dots ≡ f i → next ≡ at + length dots →
    take next (put_mid at k xs dots) ≡ side_by_side f (i + 1)
row_more f i at k next xs dots so fits is long = rw (take-put_mid at k xs dots next long fits, so, is, add-one)

-- Two more characters.
pub pair_more : (f : ℕ → List ℕ) (i at k next : ℕ) (xs first last dots : List ℕ) → take at xs ≡ side_by_side f i → at ≤ length xs → first ≡ f i → last ≡ f (i + 1) →
    dots ≡ first ++ last → next ≡ at + length dots → take next (put_mid at k xs dots) ≡ side_by_side f (i + 2)
pair_more f i at k next xs first last dots so fits a b is long =
    let one : i + 1 ≡ suc i = omega arith in
    let two : i + 2 ≡ suc (suc i) = omega arith in
    rw (take-put_mid at k xs dots next long fits, so, is, a, b, two, one, append_assoc)

-- eight dots, one by one
pub eight_are : (dots : List ℕ) → length dots ≡ 8 → first_of dots ≡ dots
eight_are (a ∷ b ∷ c ∷ d ∷ e ∷ f ∷ g ∷ h ∷ []) long = refl
eight_are _ long = absurd (omega (arith, long))

-- eight dots and eight
pub sixteen_are : (first last : List ℕ) → length first ≡ 8 → length last ≡ 8 → first_of first ++ first_of last ≡ first ++ last
sixteen_are first last a b = ap (λ (ds : List ℕ). ds ++ first_of last) (eight_are first a) ∙ ap (λ (ds : List ℕ). first ++ ds) (eight_are last b)
