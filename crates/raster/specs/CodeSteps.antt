-- Parts of drawing a shown character that the code does separately.
use Rattle.std.specs.Prelude.{ℕ, zero, suc, ◌+◌, ◌-◌, ◌*◌, ◌%◌, ◌<◌, ◌≤◌, ◌≡◌, nat_lt, Bool, true, false, List, slice_index, if◌then◌else◌}
use Rattle.beeb_bits.specs.Bits.{bit}
use Rattle.crtc6845.specs.declared.Beam.{Beam}
use Rattle.crtc6845.specs.declared.Span.{Span}
use Rattle.crtc6845.specs.Clock.{beam_of}
use Rattle.crtc6845.specs.Laws.{clocks}
use Rattle.crtc6845.specs.Spans.{beam_in_span}
use Rattle.video_ula.specs.State.{State as UlaState}
use Rattle.video_ula.specs.Pixels.{colours, side_by_side}
use Rattle.saa5050.specs.Shapes.{Font}
use Rattle.saa5050.specs.Row.{cell}
use Rattle.raster.specs.Frame.{dots_set}
use Rattle.raster.specs.Text.{Text, text_after}
use Rattle.raster.specs.Beam.{Place, place_past, byte_address}
use Rattle.raster.specs.State.{State, first_cursor}
use Rattle.raster.specs.Clock.{cell_dots, char_clock_leaves}

-- the colours of a cell on a raster
unfoldable pub cell_on : Font → ℕ → ℕ → ℕ → Text → List ℕ
cell_on font code ra fields t = cell font code ra t.bottom fields t.codes

abbrev pub cell_drawn_on : Font → ℕ → ℕ → ℕ → Bool → State → State
cell_drawn_on font code ra fields marked s = record s {
  text = text_after code s.text;
  working = dots_set 208 s.place.x s.place.y (cell_dots s.ula (cell_on font code ra fields s.text) marked) s.working;
}

-- n character clocks, one after another
abbrev pub char_clocks : List ℕ → ℕ → Font → ℕ → State → State
char_clocks ram size font zero s = s
char_clocks ram size font (suc n) s = char_clocks ram size font n (char_clock_leaves ram size font s)

-- The state after n character clocks, except the 6845 and the beam, which stay as they were.
abbrev pub drawn_ahead : List ℕ → ℕ → Font → ℕ → State → State
drawn_ahead ram size font n s = record (char_clocks ram size font n s) { crtc = s.crtc; place = s.place }

-- The next n characters are those of the span. The cursor is on none of them and was on none of the
-- three before. If they are shown, horizontal sync begins with none of them.
pub record ArePlain (span : Span) (n : ℕ) (s : State) : Type 0 where
  pub told : (k : ℕ) → k < n → beam_of (clocks k s.crtc) ≡ beam_in_span span k
  pub cursor : span.cursor ≡ false
  pub sync : span.shown ≡ true → n ≤ span.to_sync
  pub far : s.cursor ≡ first_cursor

-- After the shown character of `first`, n characters of a span are shown at the next addresses. The
-- cursor is on none of them and was on none of the last three.
pub record AreBehind (first : Beam) (n : ℕ) (s : State) : Type 0 where
  pub span : Span
  pub plain : ArePlain span n s
  pub shown : span.shown ≡ true
  pub ma : span.ma ≡ first.ma + 1
  pub ra : span.ra ≡ first.ra
  pub first_shown : first.shown ≡ true
  pub first_cursor : first.cursor ≡ false
  pub bits : bit s.ula.control 1 ≡ false
  pub dots : bit first.ra 3 ≡ false
  pub counted : s.place.x ≤ 4095

-- The dots of n characters by their bytes, without the cursor.
abbrev pub byte_row : List ℕ → ℕ → ℕ → ℕ → UlaState → ℕ → List ℕ
byte_row ram size ma ra u n = side_by_side (λ k. colours u (slice_index ram (byte_address ((ma + k) % 16384) ra size)) false) n

abbrev pub bytes_put : List ℕ → ℕ → ℕ → ℕ → ℕ → State → State
bytes_put ram size ma ra n s = record s { working = dots_set 240 s.place.x s.place.y (byte_row ram size ma ra s.ula n) s.working }

-- The beam's place after n characters of d dots. Horizontal sync begins after `to_sync` of them, if
-- n is above that.
abbrev pub place_in_span : ℕ → ℕ → ℕ → Place → Place
place_in_span to_sync n d p = if nat_lt to_sync n then place_past ((n - to_sync) * d) (record p { x = 0 }) else place_past (n * d) p

-- the dots of a character
abbrev pub wide : Bool → ℕ
wide narrow = if narrow then 8 else 16

-- The bytes of n characters at addresses from `ma` on are in the RAM, each `step` after the one
-- before, from `at` on.
pub record AreApart (ma : ℕ) (ra : ℕ) (size : ℕ) (n : ℕ) (at : ℕ) (step : ℕ) : Type 0 where
  pub stand : (k : ℕ) → k < n → byte_address ((ma + k) % 16384) ra size ≡ at + k * step
  pub within : (k : ℕ) → k < n → at + k * step < 32768

-- the codes of a teletext row, whose bytes are `step` apart
abbrev pub code_in : List ℕ → ℕ → ℕ → ℕ
code_in bytes step k = slice_index bytes (k * step) % 128

-- the row after the first n codes, and the cell of the k-th code after those before it
abbrev pub texts : (ℕ → ℕ) → ℕ → Text → Text
texts codes zero t = t
texts codes (suc n) t = text_after (codes n) (texts codes n t)

abbrev pub cells : Font → (ℕ → ℕ) → ℕ → ℕ → Text → ℕ → List ℕ
cells font codes ra fields t k = cell_on font (codes k) ra fields (texts codes k t)
