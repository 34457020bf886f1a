-- The pixels of a byte, each dot by itself.
use Rattle.std.specs.Prelude.{ℕ, zero, suc, ◌+◌, ◌-◌, ◌*◌, ◌/◌, ◌%◌, ◌^◌, ◌&&◌, Bool, false, List, [], ◌++◌, map, bit_xor, slice_index, if◌then◌else◌}
use Rattle.std.specs.List.{range_with_len}
use Rattle.beeb_bits.specs.Bits.{bit}
use Rattle.video_ula.specs.State.{State}

-- A character is 8 dots wide if the 6845 has the 2 MHz clock, otherwise 16.
abbrev pub dots_of : ℕ → ℕ
dots_of control = if bit control 4 then 8 else 16

-- A pixel is 8, 4, 2 or 1 dots wide if a line has 10, 20, 40 or 80 characters.
abbrev pub pixel_width : ℕ → ℕ
pixel_width control = 2 ^ (3 - control / 4 % 4)

-- The byte for pixel k: shifted left by k, with ones shifted in.
abbrev pub shifted_byte : ℕ → ℕ → ℕ
shifted_byte byte k = (byte * 2 ^ k + (2 ^ k - 1)) % 256

-- The palette entry of a shifted byte, by its bits 7, 5, 3 and 1.
abbrev pub weight : ℕ → Bool → ℕ
weight n b = if b then n else 0

abbrev pub entry_of : ℕ → ℕ
entry_of c = weight 8 (bit c 7) + weight 4 (bit c 5) + weight 2 (bit c 3) + weight 1 (bit c 1)

-- The colour of a value: its low three bits, inverted if the value flashes, by its bit 3, and the
-- control byte's bit 0 is set.
abbrev pub colour_of : Bool → ℕ → ℕ
colour_of flash value = bit_xor (value % 8) (if bit value 3 && flash then 7 else 0)

-- The cursor inverts a colour.
abbrev pub under_cursor : Bool → ℕ → ℕ
under_cursor cursor colour = bit_xor colour (if cursor then 7 else 0)

-- The colour of dot d of a byte.
abbrev pub dot_colour : State → ℕ → Bool → ℕ → ℕ
dot_colour u byte cursor d =
    under_cursor cursor (colour_of (bit u.control 0) (slice_index u.palette (entry_of (shifted_byte byte (d / pixel_width u.control)))))

-- the colours of a byte's dots
abbrev pub colours : State → ℕ → Bool → List ℕ
colours u byte cursor = map (dot_colour u byte cursor) (range_with_len 0 (dots_of u.control))

-- The dots of n characters side by side. Those of character k, counted from 0, are `dots k`.
abbrev pub side_by_side : (ℕ → List ℕ) → ℕ → List ℕ
side_by_side dots zero = []
side_by_side dots (suc n) = side_by_side dots n ++ dots n

-- the colours of n characters side by side without the cursor, whose bytes are `step` apart
abbrev pub row_colours : State → List ℕ → ℕ → ℕ → List ℕ
row_colours u bytes step n = side_by_side (λ k. colours u (slice_index bytes (k * step)) false) n
