-- Both halves of a slot.
use Rattle.std.proofs.Common.{◌≡◌, ℕ, List, ◌++◌, length, arith}
use Rattle.std.proofs.lemmas.List.{get_or_append_left, get_or-append_right}
use Rattle.rom_set.specs.Roms.{in_slot}
use Rattle.law_chips.specs.Roms.{HalfRomStandsTwice}

is_half : (bytes : List ℕ) → length bytes ≡ 8192 → in_slot bytes ≡ bytes ++ bytes
is_half bytes half = rw half

pub both_halves : HalfRomStandsTwice
both_halves = grind (arith, is_half, get_or_append_left, get_or-append_right)
