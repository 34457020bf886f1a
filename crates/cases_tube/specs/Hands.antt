-- A side's pass in a test.
use Rattle.std.specs.Prelude.{ℕ, ◌≡◌, ◌≤◌, ◌++◌, Bool, IsTrue, []}
use Rattle.atomic_table.specs.Seated.{TableId}
use Rattle.tube_cell.specs.Views.{word_of, past_last}
use Rattle.tube_cell.specs.Passes.{PassState}

-- The pass is of this cell, and has nothing speculative. Its word and its events are at most at
-- tick `at`. If `is_bare` holds, it has nothing unpublished.
pub record IsFit (cell : TableId) (p : PassState) (at : ℕ) (is_bare : Bool) : Type 0 where
  pub cell_is : p.cell ≡ cell
  pub none_speculative : p.speculative ≡ []
  pub word : word_of p.side p.known ≤ at
  pub events : past_last (p.events ++ p.ahead) ≤ at
  pub bare : IsTrue is_bare → p.ahead ≡ []
