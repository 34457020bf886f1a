-- Contracts see the shelf and the outlet over the working folder as one count of faults: no
-- contract can state the contents of a file there.
use Rattle.std.specs.Prelude.{ℕ, None}
use Rattle.beeb_files.specs.Shelf.{ShelfState}
use Rattle.beeb_files.specs.Outlet.{OutletState}

-- A folder's shelf shows no files, and one counter serves every name.
abbrev pub dir_shelf_state : ℕ → ShelfState
dir_shelf_state faults = record { files = None; faults = λ _. faults }

-- A folder's outlet shows no files and no bytes said, and one counter serves every name and the
-- bytes said.
abbrev pub dir_outlet_state : ℕ → OutletState
dir_outlet_state faults = record {
  files = None;
  said = None;
  faults = λ _. faults;
  say_faults = faults;
}
