use Rattle.std.proofs.Common.{ℕ, ◌≡◌, ◌<◌, ◌≤◌, None, get_or, length, drop}
use Rattle.std.specs.List.{position_from}
use Rattle.rom_set.specs.Places.{in_this}
use Rattle.rom_set.specs.Roms.{roms_seen}
use Rattle.rom_set.proofs.places.Given as goal

abbrev pub invariant-loop-place : goal.invariant-loop-place
invariant-loop-place l = record {
  within : l.place ≤ length l.slots;
  room : length l.places ≡ 16;
  so_far : (slot : ℕ) → slot < 16 → get_or l.places slot None ≡ position_from (in_this slot) l.place (roms_seen (drop l.place l.slots));
}

abbrev pub decreases-loop-place : goal.decreases-loop-place
decreases-loop-place l = l.place
