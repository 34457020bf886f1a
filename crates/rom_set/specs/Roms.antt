-- The images of the host's ROMs and of its teletext font. (Acorn, BBC Microcomputer Advanced User
-- Guide, paged ROMs. Sixteen separate slots, FF for an empty one, and the layout of the font's
-- image are this project's profile.)
use Rattle.std.specs.Prelude.{ℕ, ◌+◌, ◌-◌, ◌*◌, ◌==◌, ◌||◌, Bool, not, List, ◌++◌, Option, None, Some, option_map, Vec, length, find, map, slice_index, if◌then◌else◌}
use Rattle.std.specs.Option.{option_or}
use Rattle.std.specs.declared.alloc.Global.{Global}
use Rattle.rom_set.specs.declared.RomError.{RomError}
use Rattle.rom_set.specs.declared.RomError.TheVariants.{BadOs, BadSlot, BadFont}

-- The ROM of a slot.
pub record Rom : Type 0 where
  pub slot : ℕ
  pub bytes : List ℕ

-- A set as contracts see it: the operating system's ROM, the ROMs of slots in the order of the
-- list, and the image of the teletext font, if there is one.
pub record Roms : Type 0 where
  pub os : List ℕ
  pub slots : List Rom
  pub font : Option (List ℕ)

abbrev pub rom_seen : ℕ × Vec ℕ Global → Rom
rom_seen rom = record { slot = rom.0; bytes = rom.1.items }

abbrev pub roms_seen : List (ℕ × Vec ℕ Global) → List Rom
roms_seen slots = map rom_seen slots

-- A ROM of 8,192 bytes is twice in its slot, which has room for 16,384.
abbrev pub in_slot : List ℕ → List ℕ
in_slot bytes = if length bytes == 8192 then bytes ++ bytes else bytes

-- FF if the slot has no ROM
abbrev pub byte_in : Option Rom → ℕ → ℕ
byte_in None at = 0xFF
byte_in (Some rom) at = slice_index (in_slot rom.bytes) at

-- The byte of a slot. If two ROMs are for one slot, the first is in it.
abbrev pub rom_byte : List Rom → ℕ → ℕ → ℕ
rom_byte roms slot at = byte_in (find (λ rom. rom.slot == slot) roms) at

abbrev pub font_seen : Option (Vec ℕ Global) → Option (List ℕ)
font_seen font = option_map (λ bytes. bytes.items) font

-- A row of a character's shape, counted from the top. The font has ten bytes a code, from code 20
-- on. Without a font all is blank.
abbrev pub font_shape : Option (List ℕ) → ℕ → ℕ → ℕ
font_shape None code row = 0
font_shape (Some font) code row = slice_index font ((code - 0x20) * 10 + row)

-- The first image that is refused, in this order: an operating system that is not 16,384 bytes
-- long, the first ROM that is not 8,192 or 16,384 bytes long, a font that is not 960 bytes long.
abbrev pub fits : Rom → Bool
fits rom = length rom.bytes == 8192 || length rom.bytes == 16384

abbrev pub bad_slot : Option Rom → Option RomError
bad_slot None = None
bad_slot (Some rom) = Some (BadSlot rom.slot (length rom.bytes))

abbrev pub first_refused : List Rom → Option RomError
first_refused roms = bad_slot (find (λ rom. not (fits rom)) roms)

abbrev pub bad_font : Option (List ℕ) → Option RomError
bad_font None = None
bad_font (Some font) = if length font == 960 then None else Some (BadFont (length font))

abbrev pub refusal : List ℕ → List Rom → Option (List ℕ) → Option RomError
refusal os roms font = if length os == 16384 then option_or (first_refused roms) (bad_font font) else Some (BadOs (length os))
