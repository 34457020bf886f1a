-- ROMs of half a slot. (BBC Microcomputer Advanced User Guide, paged ROMs.)
use Rattle.std.specs.Prelude.{ℕ, ◌+◌, ◌==◌, ◌<◌, ◌≡◌, List, Some, length, find, slice_index}
use Rattle.rom_set.specs.Roms.{Rom, rom_byte}

-- A ROM of 8,192 bytes that is in a slot answers its own bytes in both halves of it.
abbrev pub HalfRomStandsTwice : Type 0
HalfRomStandsTwice =
    (roms : List Rom) (rom : Rom) (slot at : ℕ) → find (λ r. r.slot == slot) roms ≡ Some rom → length rom.bytes ≡ 8192 → at < 8192 →
    (rom_byte roms slot at ≡ slice_index rom.bytes at) × (rom_byte roms slot (8192 + at) ≡ slice_index rom.bytes at)
