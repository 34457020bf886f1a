use Rattle.std.proofs.Common.{◌≡◌, drop}
use Rattle.rom_set.specs.Roms.{roms_seen, first_refused}
use Rattle.rom_set.proofs.test_slots.Given as goal

-- the first that is refused is among those that are left
abbrev pub invariant-loop-slot : goal.invariant-loop-slot
invariant-loop-slot l = first_refused (roms_seen (drop l.slot-index l.slots)) ≡ first_refused (roms_seen l.slots)
