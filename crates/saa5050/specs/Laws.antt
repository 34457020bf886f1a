-- A row by the list of its codes.
use Rattle.std.specs.Prelude.{ℕ, ◌≡◌, ◌==◌, List, [], ◌∷◌, ◌++◌}
use Rattle.std.specs.List.{list_any}
use Rattle.saa5050.specs.Row.{row_of, row_after}

-- One more code is one more step.
abbrev pub OneCodeMore : Type 0
OneCodeMore = (codes : List ℕ) (code : ℕ) → row_of (codes ++ code ∷ []) ≡ row_after code (row_of codes)

-- A row has a double-height code if one of its codes is 0D.
abbrev pub DoubleIsAmongCodes : Type 0
DoubleIsAmongCodes = (codes : List ℕ) → (row_of codes).had_double ≡ list_any (λ code. code == 0x0D) codes
