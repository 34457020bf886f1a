-- The flag of each column that the code stores besides the keys.
use Rattle.std.specs.Prelude.{ℕ, ◌≡◌, ◌<◌, Bool, false, List, slice_index_or, Some}
use Rattle.keyboard.specs.Keys.{Keys, any}

-- in each of the 16 columns, the flag is set if a key of rows 1 to 7 is down
abbrev pub AreColumns : List Bool → Keys → Type 0
AreColumns columns keys = (column : ℕ) → column < 16 → slice_index_or columns column false ≡ any (Some column) keys
