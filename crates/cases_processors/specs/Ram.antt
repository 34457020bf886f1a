-- Memory that is plain at each address, as whole instructions access it.
use Rattle.std.specs.Prelude.{◌≡◌, ℕ, zero, suc, List, [], ◌∷◌, true, slice_index, slice_set, refl}
use Rattle.std.proofs.Common.{ap}
use Rattle.cpu_whole.specs.Whole.{Reach, IsPlain}

abbrev pub ram : Reach (List ℕ)
ram = record {
  reads = λ at. true;
  writes = λ at. true;
  byte = λ m at. slice_index m at;
  put = λ m t n at byte. slice_set m at byte;
}

-- The last byte written at an address is stored there.
pub set_again : (m : List ℕ) (at a b : ℕ) → slice_set (slice_set m at a) at b ≡ slice_set m at b
set_again [] at a b = refl
set_again (x ∷ xs) zero a b = refl
set_again (x ∷ xs) (suc at) a b = ap (λ l. x ∷ l) (set_again xs at a b)

pub ram_plain : IsPlain ram
ram_plain = record {
  low_read = λ at low. refl;
  low_written = λ at low. refl;
  again = λ m t n at byte plain. set_again m at (slice_index m at) byte;
}
