-- The dots of a finished frame in teletext mode, while no register of the 6845 and of the video ULA
-- is written. (SAA5050 data sheet; 6845 data sheet, Horizontal and Vertical Timing, Memory
-- Addresses; BBC Microcomputer Advanced User Guide, The Video ULA.)
use Rattle.std.specs.Prelude.{ℕ, zero, suc, ◌+◌, ◌-◌, ◌*◌, ◌/◌, ◌%◌, ◌≡◌, ◌<◌, ◌≤◌, ◌&&◌, not, Bool, true, false, List, [], ◌∷◌, slice_index}
use Rattle.beeb_bits.specs.Bits.{bit}
use Rattle.crtc6845.specs.State as crtc
use Rattle.crtc6845.specs.Laws.{tells, line_characters, frame_lines, frame_clocks}
use Rattle.crtc6845.specs.Pictures.{row_at, column_at}
use Rattle.video_ula.specs.Pixels.{dots_of, under_cursor}
use Rattle.saa5050.specs.Shapes.{Font}
use Rattle.raster.specs.Frame.{is_in_frame}
use Rattle.raster.specs.State.{State}
use Rattle.law_chips.specs.ShownBytes.{char_clocks, beam_line, beam_dot, finish_clock, raster_at, is_shown_at, byte_at, is_marked_at, frame_start, has_dot}
use Rattle.law_chips.specs.ShownBytes.{MakesFrames, IsUnderWay}
use Rattle.law_chips.specs.TeletextCells.{pixels_of}

-- the code of the character of clock `n`: the low seven bits of its byte at that clock
abbrev pub code_at : (ℕ → List ℕ) → (ℕ → ℕ) → crtc.Registers → ℕ → ℕ
code_at ram size r n = byte_at (ram n) (size n) r n % 128

-- the codes of the `j` characters before clock `n`, the nearest first
abbrev pub codes_before : (ℕ → List ℕ) → (ℕ → ℕ) → crtc.Registers → ℕ → ℕ → List ℕ
codes_before ram size r n zero = []
codes_before ram size r n (suc j) = code_at ram size r (n - 1) ∷ codes_before ram size r (n - 1) j

-- The pixels of its cell on its line, by all codes before it in the line. The rows that are lower
-- ones of double height are defined below.
abbrev pub cell_at : (ℕ → List ℕ) → (ℕ → ℕ) → Font → State → ℕ → List ℕ
cell_at ram size font s n =
    let r = s.crtc.registers in
    pixels_of font (code_at ram size r n) (codes_before ram size r n (column_at r n)) (raster_at r n)
    (char_clocks ram size font n s).text.bottom (tells n s.crtc).fields

-- Each dot of each shown character within the frame has the colour of its cell in the finished
-- frame; the cursor inverts it. This holds after the clock that finishes that frame, until the next
-- one is finished. The frame begins at dot 208 after the beginning of horizontal sync.
abbrev pub FramesShowTheirCells : Type 0
FramesShowTheirCells =
    (ram : ℕ → List ℕ) (size : ℕ → ℕ) (font : Font) (s : State) (n d m : ℕ) →
    let r = s.crtc.registers in
    let x = beam_dot r (dots_of s.ula.control) n + d in
    let y = beam_line r n in
    MakesFrames s.crtc → bit s.ula.control 1 ≡ true → IsUnderWay r n →
    is_shown_at r n ≡ true → d < dots_of s.ula.control → is_in_frame 208 x y ≡ true →
    finish_clock r n < m → m ≤ finish_clock r n + frame_clocks r →
    slice_index (char_clocks ram size font m s).finished (640 * (y - 40) + (x - 208))
    ≡ under_cursor (is_marked_at s.ula.control s.crtc n) (slice_index (cell_at ram size font s n) d)

-- Each other dot of a finished frame is black, as in bit-mapped modes.
abbrev pub RestOfPageIsBlack : Type 0
RestOfPageIsBlack =
    (ram : ℕ → List ℕ) (size : ℕ → ℕ) (font : Font) (s : State) (k x y m : ℕ) →
    let r = s.crtc.registers in
    let start = frame_start r k in
    let finish = frame_start r (k + 1) in
    MakesFrames s.crtc → bit s.ula.control 1 ≡ true → r.horizontal_sync_position ≤ start → is_in_frame 208 x y ≡ true →
    ((n : ℕ) → start ≤ n → n < finish → (is_shown_at r n && has_dot r (dots_of s.ula.control) n x y) ≡ false) →
    finish < m → m ≤ finish + frame_clocks r →
    slice_index (char_clocks ram size font m s).finished (640 * (y - 40) + (x - 208)) ≡ 0

-- ---- The lower rows of double height

-- the number of the frame of clock `n`, counted from that of clock 0
abbrev pub frame_index : crtc.Registers → ℕ → ℕ
frame_index r n = n / line_characters r / frame_lines r

-- clock `m` is in the row above that of clock `n`
pub record IsAbove (r : crtc.Registers) (m n : ℕ) : Type 0 where
  pub frame : frame_index r m ≡ frame_index r n
  pub row : row_at r m + 1 ≡ row_at r n

-- the character of clock `m` is shown, and has the code for double height
pub record Doubles (ram : ℕ → List ℕ) (size : ℕ → ℕ) (r : crtc.Registers) (m : ℕ) : Type 0 where
  pub shown : is_shown_at r m ≡ true
  pub code : code_at ram size r m ≡ 0x0D

abbrev pub is_lower : (ℕ → List ℕ) → (ℕ → ℕ) → Font → State → ℕ → Bool
is_lower ram size font s n = (char_clocks ram size font n s).text.bottom

-- From the first whole frame on, the first row of a frame is no lower one. Any other is a lower one
-- if the row above is none, and has a double height code on any of its lines; otherwise it is not.
pub record LowerRowsFollow : Type 0 where
  pub first : (ram : ℕ → List ℕ) (size : ℕ → ℕ) (font : Font) (s : State) (n : ℕ) → MakesFrames s.crtc → bit s.ula.control 1 ≡ true →
      1 ≤ frame_index s.crtc.registers n → row_at s.crtc.registers n ≡ 0 → is_lower ram size font s n ≡ false
  pub below : (ram : ℕ → List ℕ) (size : ℕ → ℕ) (font : Font) (s : State) (n m : ℕ) → MakesFrames s.crtc → bit s.ula.control 1 ≡ true →
      1 ≤ frame_index s.crtc.registers n → row_at s.crtc.registers n ≤ s.crtc.registers.vertical_total →
      IsAbove s.crtc.registers m n → Doubles ram size s.crtc.registers m → is_lower ram size font s n ≡ not (is_lower ram size font s m)
  pub plain : (ram : ℕ → List ℕ) (size : ℕ → ℕ) (font : Font) (s : State) (n : ℕ) → MakesFrames s.crtc → bit s.ula.control 1 ≡ true →
      1 ≤ frame_index s.crtc.registers n → row_at s.crtc.registers n ≤ s.crtc.registers.vertical_total →
      ((m : ℕ) → IsAbove s.crtc.registers m n → Doubles ram size s.crtc.registers m → ⊥) → is_lower ram size font s n ≡ false
