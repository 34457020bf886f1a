-- The ends of frames, and the cursor's position, in whole frames of a 6845 whose registers are not
-- written. (6845 data sheet, Vertical Timing and Cursor.)
use Rattle.std.specs.Prelude.{ℕ, zero, suc, ◌+◌, ◌*◌, ◌%◌, ◌==◌, ◌&&◌, ◌≡◌, ◌≤◌, ◌<◌, nat_le, List, if◌then◌else◌}
use Rattle.crtc6845.specs.State as chip
use Rattle.crtc6845.specs.Registers.{start_address, cursor_address}
use Rattle.crtc6845.specs.Clock.{beam_of, blinks_on}
use Rattle.crtc6845.specs.Laws.{tells, line_characters, frame_clocks, HaveTheirBits, BeginsFrame}
use Rattle.crtc6845.specs.Pictures.{sync_line, row_at, column_at, HasItsSync}
use Rattle.saa5050.specs.Shapes.{Font}
use Rattle.raster.specs.State.{State}
use Rattle.raster.specs.Clock.{char_clock_leaves}

-- `n` character clocks, one after the other, each with the RAM and the screen's size at its time
abbrev pub char_clocks : (ℕ → List ℕ) → (ℕ → ℕ) → Font → ℕ → State → State
char_clocks ram size font zero s = s
char_clocks ram size font (suc n) s = char_clock_leaves (ram n) (size n) font (char_clocks ram size font n s)

-- Only a character clock that ends a frame changes the finished frame. It becomes the frame that
-- was drawn up to this clock. From the first clock of a frame on, the first character of row R7
-- ends each frame, whether or not the RAM is written. If there is no row R7, no frame ends.
pub record FramesFinish : Type 0 where
  pub each : (ram : List ℕ) (size : ℕ) (font : Font) (s : State) →
      (char_clock_leaves ram size font s).finished ≡ (if (beam_of s.crtc).frame_end then s.working else s.finished)
  pub in_time : (ram : ℕ → List ℕ) (size : ℕ → ℕ) (font : Font) (s : State) (n : ℕ) →
      HaveTheirBits s.crtc.registers → HasItsSync s.crtc.registers → BeginsFrame s.crtc → s.crtc.sync_lines ≤ sync_line s.crtc.registers + 1 →
      (char_clocks ram size font (n + 1) s).finished
      ≡ (if n % frame_clocks s.crtc.registers == sync_line s.crtc.registers * line_characters s.crtc.registers
      then (char_clocks ram size font n s).working else (char_clocks ram size font n s).finished)
  pub never : (ram : ℕ → List ℕ) (size : ℕ → ℕ) (font : Font) (s : State) (n : ℕ) →
      HaveTheirBits s.crtc.registers → s.crtc.registers.vertical_total < s.crtc.registers.vertical_sync_position → BeginsFrame s.crtc →
      (char_clocks ram size font n s).finished ≡ s.finished

-- The character's address in the screen's memory: the start address, plus R1 for each row above,
-- plus one for each character before it in its line.
abbrev pub place_of : chip.Registers → ℕ → ℕ
place_of r n = (start_address r + row_at r n * r.horizontal_displayed + column_at r n) % 16384

-- A frame begins at the start address. From its first clock on, the cursor is on each shown
-- character at the cursor's address, and on no other. It blinks, on the rasters from R10's low five
-- bits to R11.
abbrev pub CursorStands : Type 0
CursorStands =
    (c : chip.State) (n : ℕ) → HaveTheirBits c.registers → BeginsFrame c → c.base ≡ start_address c.registers →
    (tells n c).cursor
    ≡ ((tells n c).shown && ((place_of c.registers n == cursor_address c.registers)
    && (nat_le (c.registers.cursor_start % 32) (tells n c).ra && (nat_le (tells n c).ra c.registers.cursor_end
    && blinks_on c.registers.cursor_start (tells n c).fields))))
