-- The video ULA: it turns the bytes of a picture into colours. (BBC Microcomputer Advanced User
-- Guide, The Video ULA.)
use Rattle.std.specs.Prelude.{ℕ, ◌/◌, ◌%◌, List, replicate, bit_xor, slice_set}

pub record State : Type 0 where
  -- The control byte. Bit 0 selects the flash colour, bit 1 teletext, bits 2 and 3 the characters
  -- of a line, bit 4 the clock of the 6845, and bits 5 to 7 the cursor.
  pub control : ℕ
  -- sixteen values of four bits
  pub palette : List ℕ

-- At power-on all is 0, the palette's values too. (That is this project's profile.)
abbrev pub power_on : State
power_on = record { control = 0; palette = replicate 16 0 }

abbrev pub control_leaves : ℕ → State → State
control_leaves v u = record u { control = v }

-- A write to the palette: the high digit is the number of the entry, and its value is the low digit
-- XOR 7.
abbrev pub palette_leaves : ℕ → State → State
palette_leaves v u = record u { palette = slice_set u.palette (v / 16) (bit_xor (v % 16) 7) }
