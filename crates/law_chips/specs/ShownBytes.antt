-- The byte that each dot of a finished frame shows, in bit-mapped modes, while no register of the
-- 6845 and of the video ULA is written. (6845 data sheet, Horizontal and Vertical Timing, Memory
-- Addresses; BBC Microcomputer Advanced User Guide, The Video ULA, Screen Addresses.)
use Rattle.std.specs.Prelude.{ℕ, zero, suc, ◌+◌, ◌-◌, ◌*◌, ◌/◌, ◌%◌, ◌==◌, ◌&&◌, ◌≡◌, ◌<◌, ◌≤◌, nat_lt, nat_le, Bool, true, false, List, slice_index, if◌then◌else◌}
use Rattle.beeb_bits.specs.Bits.{bit}
use Rattle.crtc6845.specs.State as crtc
use Rattle.crtc6845.specs.Registers.{start_address}
use Rattle.crtc6845.specs.Clock.{raster_step}
use Rattle.crtc6845.specs.Laws.{tells, line_characters, row_lines, frame_clocks, HaveTheirBits, BeginsFrame}
use Rattle.crtc6845.specs.Pictures.{sync_line, line_at, row_at, column_at, HasItsSync}
use Rattle.video_ula.specs.State as ula
use Rattle.video_ula.specs.Pixels.{dots_of, under_cursor, dot_colour}
use Rattle.saa5050.specs.Shapes.{Font}
use Rattle.raster.specs.Frame.{is_in_frame}
use Rattle.raster.specs.Beam.{Cursor, byte_address, is_marked}
use Rattle.raster.specs.State.{State}
use Rattle.raster.specs.Clock.{char_clock_leaves, microseconds}

-- ---- Character clocks and microseconds.

-- `n` character clocks, one after the other, each with the RAM and the screen's size at its time
abbrev pub char_clocks : (ℕ → List ℕ) → (ℕ → ℕ) → Font → ℕ → State → State
char_clocks ram size font zero s = s
char_clocks ram size font (suc n) s = char_clock_leaves (ram n) (size n) font (char_clocks ram size font n s)

-- `n` microseconds with the same RAM are `n` character clocks, or twice as many if the 6845 has the
-- clock of 2 MHz.
abbrev pub MicrosecondsAreClocks : Type 0
MicrosecondsAreClocks =
    (ram : List ℕ) (size : ℕ) (font : Font) (n : ℕ) (s : State) →
    microseconds ram size font n s
    ≡ char_clocks (λ k. ram) (λ k. size) font (if bit s.ula.control 4 then 2 * n else n) s

-- ---- The position of character clock n. The clocks count from 0, the first clock of a frame.

-- the first clock of vertical sync in a frame: the first one of row R7
abbrev pub sync_clock : crtc.Registers → ℕ
sync_clock r = sync_line r * line_characters r

-- The line, counted from the beginning of vertical sync, and the dot, counted from that of
-- horizontal sync at character R2.
abbrev pub beam_line : crtc.Registers → ℕ → ℕ
beam_line r n = (n - sync_clock r) % frame_clocks r / line_characters r

abbrev pub beam_dot : crtc.Registers → ℕ → ℕ → ℕ
beam_dot r dots n = (n - r.horizontal_sync_position) % line_characters r * dots

-- The first clock of frame `k`, counted from 0; and the number of the frame that clock `n` draws.
abbrev pub frame_start : crtc.Registers → ℕ → ℕ
frame_start r k = sync_clock r + k * frame_clocks r

abbrev pub frame_number : crtc.Registers → ℕ → ℕ
frame_number r n = (n - sync_clock r) / frame_clocks r

-- The frame that clock `n` draws is finished when the next one begins.
abbrev pub finish_clock : crtc.Registers → ℕ → ℕ
finish_clock r n = frame_start r (frame_number r n + 1)

-- ---- The characters that are shown

-- the raster of clock `n`, if its line is none of the vertical total adjust
abbrev pub raster_at : crtc.Registers → ℕ → ℕ
raster_at r n = line_at r n % row_lines r * raster_step r

-- A character is shown if its column is below R1 and its row below R6, and the frame has the row.
abbrev pub is_shown_at : crtc.Registers → ℕ → Bool
is_shown_at r n =
    nat_lt (column_at r n) r.horizontal_displayed && nat_lt (row_at r n) r.vertical_displayed
    && nat_le (row_at r n) r.vertical_total

-- From the first clock of a frame on, the 6845 shows these characters, each on its raster.
pub record CharactersAreShown : Type 0 where
  pub which : (c : crtc.State) (n : ℕ) → HaveTheirBits c.registers → BeginsFrame c →
      (tells n c).shown ≡ is_shown_at c.registers n
  pub raster : (c : crtc.State) (n : ℕ) → HaveTheirBits c.registers → BeginsFrame c →
      (tells n c).shown ≡ true → (tells n c).ra ≡ raster_at c.registers n

-- ---- The bytes and colours shown

-- The character's address: the start address, plus R1 for each row above, plus one for each
-- character before it in its line.
abbrev pub character_address : crtc.Registers → ℕ → ℕ
character_address r n = (start_address r + row_at r n * r.horizontal_displayed + column_at r n) % 16384

-- the byte that is shown, in this RAM and with this size of the screen
abbrev pub byte_at : List ℕ → ℕ → crtc.Registers → ℕ → ℕ
byte_at ram size r n = slice_index ram (byte_address (character_address r n) (raster_at r n) size)

-- dot d of a byte: its colour, but black on rasters 8 to 15 and 24 to 31
abbrev pub shown_colour : ula.State → ℕ → ℕ → Bool → ℕ → ℕ
shown_colour u byte ra marked d = if bit ra 3 then under_cursor marked 0 else dot_colour u byte marked d

-- The cursor marks the character of clock `n`. This depends on the cursor at this clock and at the
-- three clocks before.
abbrev pub cursor_before : crtc.State → ℕ → Cursor
cursor_before c n = record {
  one_ago = (tells (n - 1) c).cursor;
  two_ago = (tells (n - 2) c).cursor;
  three_ago = (tells (n - 3) c).cursor;
}

abbrev pub is_marked_at : ℕ → crtc.State → ℕ → Bool
is_marked_at control c n = is_marked control (tells n c).cursor (cursor_before c n)

-- the colour of dot `d` of the character of clock `n`
abbrev pub colour_at : List ℕ → ℕ → ula.State → crtc.State → ℕ → ℕ → ℕ
colour_at ram size u c n d =
    let r = c.registers in
    shown_colour u (byte_at ram size r n) (raster_at r n) (is_marked_at u.control c n) d

-- The 6845 is at the first clock of a frame that begins at the start address. Its frames have a
-- vertical sync and its lines a horizontal one. No earlier sync is on when row R7 comes.
pub record MakesFrames (c : crtc.State) : Type 0 where
  pub bits : HaveTheirBits c.registers
  pub vertical : HasItsSync c.registers
  pub horizontal : c.registers.horizontal_sync_position ≤ c.registers.horizontal_total
  pub begins : BeginsFrame c
  pub base : c.base ≡ start_address c.registers
  pub early : c.sync_lines ≤ sync_line c.registers + 1

-- Both syncs have begun by clock `n`, and at least three characters precede it.
pub record IsUnderWay (r : crtc.Registers) (n : ℕ) : Type 0 where
  pub vertical : sync_clock r ≤ n
  pub horizontal : r.horizontal_sync_position ≤ n
  pub three : 3 ≤ n

-- Each dot of each shown character within the frame has the colour of its byte in the finished
-- frame. This holds after the clock that finishes that frame, until the next one is finished. The
-- byte and the screen's size are those at the character's clock, even if the RAM is written later.
-- The frame is 256 lines of 640 dots. It begins at line 40 after the beginning of vertical sync,
-- and at dot 240 after that of horizontal sync.
abbrev pub FramesShowTheirBytes : Type 0
FramesShowTheirBytes =
    (ram : ℕ → List ℕ) (size : ℕ → ℕ) (font : Font) (s : State) (n d m : ℕ) →
    let r = s.crtc.registers in
    let x = beam_dot r (dots_of s.ula.control) n + d in
    let y = beam_line r n in
    MakesFrames s.crtc → bit s.ula.control 1 ≡ false → IsUnderWay r n →
    is_shown_at r n ≡ true → d < dots_of s.ula.control → is_in_frame 240 x y ≡ true →
    finish_clock r n < m → m ≤ finish_clock r n + frame_clocks r →
    slice_index (char_clocks ram size font m s).finished (640 * (y - 40) + (x - 240))
    ≡ colour_at (ram n) (size n) s.ula s.crtc n d

-- dot x, y belongs to the character of clock `n`
abbrev pub has_dot : crtc.Registers → ℕ → ℕ → ℕ → ℕ → Bool
has_dot r dots n x y = beam_line r n == y && nat_le (beam_dot r dots n) x && nat_lt x (beam_dot r dots n + dots)

-- Each dot of a finished frame is black if no shown character of that frame has it. The frame
-- begins after horizontal sync has begun.
abbrev pub RestIsBlack : Type 0
RestIsBlack =
    (ram : ℕ → List ℕ) (size : ℕ → ℕ) (font : Font) (s : State) (k x y m : ℕ) →
    let r = s.crtc.registers in
    let start = frame_start r k in
    let finish = frame_start r (k + 1) in
    MakesFrames s.crtc → bit s.ula.control 1 ≡ false → r.horizontal_sync_position ≤ start → is_in_frame 240 x y ≡ true →
    ((n : ℕ) → start ≤ n → n < finish → (is_shown_at r n && has_dot r (dots_of s.ula.control) n x y) ≡ false) →
    finish < m → m ≤ finish + frame_clocks r →
    slice_index (char_clocks ram size font m s).finished (640 * (y - 40) + (x - 240)) ≡ 0
