-- n bytes, all 00.
use Rattle.std.specs.Prelude.{ℕ, ◌≡◌, ◌≤◌, List, length, replicate, slice_index}
use Rattle.std.proofs.Common.{arith, inl, inr}
use Rattle.std.proofs.lemmas.Bool.{cases_lt}
use Rattle.std.proofs.lemmas.List.{length-replicate, get_or-replicate, get_or_past}

-- `zeros` stays folded, so that no proof expands a long list.
unfoldable pub zeros : ℕ → List ℕ
zeros n = replicate n 0

pub zeros-are : (n : ℕ) (bytes : List ℕ) → bytes ≡ replicate n 0 → bytes ≡ zeros n
unfolding zeros
zeros-are n bytes are = are

pub zeros-long : (n : ℕ) → length (zeros n) ≡ n
unfolding zeros
zeros-long n = length-replicate n 0

-- each byte is 00, and so is a byte past the last
pub zeros-at : (n at : ℕ) → slice_index (zeros n) at ≡ 0
unfolding zeros
zeros-at n at =
    elim (cases_lt at n) [
      | inl inside ↦ get_or-replicate n at 0 0 inside
      | inr past ↦ let short : length (replicate n 0) ≤ at = omega (arith, length-replicate {A = ℕ} n 0) in get_or_past (replicate n 0) at 0 short
    ]
