-- The place in the list of each slot's ROM, as the code stores it.
use Rattle.std.specs.Prelude.{ℕ, ◌≡◌, ◌<◌, ◌==◌, Bool, List, Option, None, Vec, slice_index_or}
use Rattle.std.specs.List.{position_from}
use Rattle.std.specs.declared.alloc.Global.{Global}
use Rattle.rom_set.specs.Roms.{Rom, roms_seen}

abbrev pub in_this : ℕ → Rom → Bool
in_this slot rom = rom.slot == slot

abbrev pub IsPlaced : List (ℕ × Vec ℕ Global) → List (Option ℕ) → Type 0
IsPlaced slots places = (slot : ℕ) → slot < 16 → slice_index_or places slot None ≡ position_from (in_this slot) 0 (roms_seen slots)
