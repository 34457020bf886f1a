-- Writes that were noted are rolled back.
use Rattle.std.proofs.Common.{◌≡◌, refl, ap, ℕ, List, [], ◌∷◌, ◌++◌}
use Rattle.std.proofs.lemmas.List.{set-get_or, set-set}
use Rattle.std.specs.Prelude.{slice_index, slice_set}
use Rattle.para_mach.specs.declared.notes.Stood.{Stood}
use Rattle.para_mach.specs.CodeNotes.{put_back}

-- the newest is put back first
pub put_back_last : (xs : List Stood) (x : Stood) (ram : List ℕ) → put_back (xs ++ x ∷ []) ram ≡ put_back xs (slice_set ram x.at x.byte)
put_back_last [] x ram = refl
put_back_last (y ∷ ys) x ram = ap (λ (r : List ℕ). slice_set r y.at y.byte) (put_back_last ys x ram)

-- a write is rolled back by the former byte
pub put_back_written : (xs ys : List Stood) (x : Stood) (ram : List ℕ) (byte : ℕ) → ys ≡ xs ++ x ∷ [] → slice_index ram x.at ≡ x.byte
    → put_back ys (slice_set ram x.at byte) ≡ put_back xs ram
put_back_written xs ys x ram byte is stood =
    rw (is, put_back_last xs x (slice_set ram x.at byte), set-set ram x.at byte x.byte, ← stood, set-get_or ram x.at 0)
