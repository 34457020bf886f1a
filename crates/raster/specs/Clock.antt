-- One character clock, and one microsecond, of the raster.
use Rattle.std.specs.Prelude.{ℕ, zero, suc, ◌%◌, Bool, List, map, take, replicate, slice_index, if◌then◌else◌}
use Rattle.beeb_bits.specs.Bits.{bit}
use Rattle.crtc6845.specs.declared.Beam.{Beam}
use Rattle.crtc6845.specs.Clock.{beam_of, clock_leaves, is_in_sync}
use Rattle.video_ula.specs.State.{State as UlaState}
use Rattle.video_ula.specs.Pixels.{dots_of, under_cursor, colours}
use Rattle.saa5050.specs.Shapes.{Font}
use Rattle.raster.specs.Frame.{black, dots_set}
use Rattle.raster.specs.Beam.{place_at, place_past, byte_address, cursor_past, is_marked}
use Rattle.raster.specs.Text.{text_at, cell_of, text_after, text_past}
use Rattle.raster.specs.State.{State}

-- The beam reaches the character. If a frame is finished, the working frame becomes the finished
-- one, and a black one begins. The finished frame changes in no other case.
abbrev pub begin_leaves : Beam → State → State
begin_leaves beam s = record s {
  place = place_at beam s.place;
  text = text_at beam s.text;
  working = if beam.frame_end then black else s.working;
  finished = if beam.frame_end then s.working else s.finished;
}

-- The dots of a shown character: those of its byte, but black on rasters 8 to 15 and 24 to 31.
abbrev pub byte_dots : UlaState → ℕ → ℕ → Bool → List ℕ
byte_dots u byte ra marked = if bit ra 3 then replicate (dots_of u.control) (under_cursor marked 0) else colours u byte marked

-- In teletext the dots are those of the character's cell. At 2 MHz only the first half is shown.
abbrev pub cell_dots : UlaState → List ℕ → Bool → List ℕ
cell_dots u cell marked = take (dots_of u.control) (map (under_cursor marked) cell)

-- the byte is drawn, or the cell of its low seven bits
abbrev pub draw_byte_leaves : Beam → ℕ → State → State
draw_byte_leaves beam byte s = record s {
  working = dots_set 240 s.place.x s.place.y (byte_dots s.ula byte beam.ra (is_marked s.ula.control beam.cursor s.cursor)) s.working;
}

abbrev pub draw_cell_leaves : Font → Beam → ℕ → State → State
draw_cell_leaves font beam code s = record s {
  text = text_after code s.text;
  working = dots_set 208 s.place.x s.place.y
      (cell_dots s.ula (cell_of font code beam s.text) (is_marked s.ula.control beam.cursor s.cursor)) s.working;
}

abbrev pub draw_leaves : List ℕ → ℕ → Font → Beam → State → State
draw_leaves ram size font beam s =
    let byte = slice_index ram (byte_address beam.ma beam.ra size) in
    if bit s.ula.control 1 then draw_cell_leaves font beam (byte % 128) s else draw_byte_leaves beam byte s

-- a character draws nothing if it is not shown
abbrev pub show_leaves : List ℕ → ℕ → Font → Beam → State → State
show_leaves ram size font beam s = if beam.shown then draw_leaves ram size font beam s else s

-- The beam leaves the character.
abbrev pub pass_leaves : Beam → State → State
pass_leaves beam s = record s {
  place = place_past (dots_of s.ula.control) s.place;
  cursor = cursor_past beam.cursor s.cursor;
  text = text_past beam s.text;
}

-- One character clock: the 6845 has its outputs, and the beam follows them. `ram` has 32,768 bytes,
-- and `size` is that of the screen.
abbrev pub tell_leaves : List ℕ → ℕ → Font → Beam → State → State
tell_leaves ram size font beam s = pass_leaves beam (show_leaves ram size font beam (begin_leaves beam s))

unfoldable pub char_clock_leaves : List ℕ → ℕ → Font → State → State
char_clock_leaves ram size font s = tell_leaves ram size font (beam_of s.crtc) (record s { crtc = clock_leaves s.crtc })

-- One microsecond is two character clocks if bit 4 of the ULA's control byte is set when it begins,
-- otherwise one.
abbrev pub microsecond : List ℕ → ℕ → Font → State → State
microsecond ram size font s =
    if bit s.ula.control 4 then char_clock_leaves ram size font (char_clock_leaves ram size font s) else char_clock_leaves ram size font s

-- n microseconds, one after another
abbrev pub microseconds : List ℕ → ℕ → Font → ℕ → State → State
microseconds ram size font zero s = s
microseconds ram size font (suc n) s = microseconds ram size font n (microsecond ram size font s)

-- vertical sync is on
abbrev pub vsync_of : State → Bool
vsync_of s = is_in_sync s.crtc
