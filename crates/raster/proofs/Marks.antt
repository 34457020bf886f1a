-- The colours of a list are replaced one after another.
use Rattle.std.proofs.Common.{◌≡◌, ap, refl, ℕ, zero, suc, ◌+◌, ◌<◌, List, [], ◌∷◌, ◌++◌, length, map, take, drop, add-one, arith}
use Rattle.std.specs.Prelude.{slice_index, slice_set}

-- the first n are replaced
abbrev pub replaced : (ℕ → ℕ) → ℕ → List ℕ → List ℕ
replaced f n xs = map f (take n xs) ++ drop n xs

replaced-suc : (f : ℕ → ℕ) (n : ℕ) (xs : List ℕ) → n < length xs → slice_set (replaced f n xs) n (f (slice_index (replaced f n xs) n)) ≡ replaced f (suc n) xs
replaced-suc f n [] h = absurd (omega (arith, h))
replaced-suc f zero (x ∷ xs) h = refl
replaced-suc f (suc n) (x ∷ xs) h = ap (λ ys. f x ∷ ys) (replaced-suc f n xs (omega (arith, h)))

pub replaced-more : (f : ℕ → ℕ) (n : ℕ) (xs : List ℕ) → n < length xs → slice_set (replaced f n xs) n (f (slice_index (replaced f n xs) n)) ≡ replaced f (n + 1) xs
replaced-more f n xs h = rw add-one (replaced-suc f n xs h)
