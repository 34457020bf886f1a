-- Whole frames of a chip whose registers are not written: the characters of a line, and the lines
-- and clocks of a frame. (6845 data sheet, Horizontal and Vertical Timing.)
use Rattle.std.specs.Prelude.{ℕ, zero, suc, ◌+◌, ◌*◌, ◌/◌, ◌%◌, ◌==◌, ◌≡◌, ◌<◌, None}
use Rattle.crtc6845.specs.declared.Beam.{Beam}
use Rattle.crtc6845.specs.State.{Registers, State}
use Rattle.crtc6845.specs.Clock.{raster_step, last_raster, clock_leaves, beam_of}

-- n clocks, one after another, and the outputs of the clock after them
abbrev pub clocks : ℕ → State → State
clocks zero c = c
clocks (suc n) c = clocks n (clock_leaves c)

abbrev pub tells : ℕ → State → Beam
tells n c = beam_of (clocks n c)

-- A line has R0 + 1 characters. A row has the rasters from 0 to its last one.
abbrev pub line_characters : Registers → ℕ
line_characters r = r.horizontal_total + 1

abbrev pub row_lines : Registers → ℕ
row_lines r = last_raster r / raster_step r + 1

-- A frame has R4 + 1 rows, and then R5 adjust lines.
abbrev pub frame_lines : Registers → ℕ
frame_lines r = (r.vertical_total + 1) * row_lines r + r.vertical_adjust

abbrev pub frame_clocks : Registers → ℕ
frame_clocks r = line_characters r * frame_lines r

-- the registers R0, R4, R5 and R9 are within their numbers of bits
pub record HaveTheirBits (r : Registers) : Type 0 where
  pub horizontal_total : r.horizontal_total < 256
  pub vertical_total : r.vertical_total < 128
  pub vertical_adjust : r.vertical_adjust < 32
  pub maximum_raster : r.maximum_raster < 32

-- the next clock is the first of a frame
pub record BeginsFrame (c : State) : Type 0 where
  pub character : c.character ≡ 0
  pub row : c.row ≡ 0
  pub raster : c.raster ≡ 0
  pub adjust : c.adjust ≡ None

-- Clocks count from 0, from the first character of a line on. A line starts with each clock whose
-- number is a multiple of the characters of a line. Horizontal sync begins R2 characters after that
-- start, if the line has character R2.
abbrev pub LinesHaveTheirCharacters : Type 0
LinesHaveTheirCharacters =
    (c : State) (n : ℕ) → HaveTheirBits c.registers → c.character ≡ 0 →
    (tells n c).line_start ≡ (n % line_characters c.registers == 0)

abbrev pub SyncComesInEachLine : Type 0
SyncComesInEachLine =
    (c : State) (n : ℕ) → HaveTheirBits c.registers → c.character ≡ 0 →
    (tells n c).sync_start ≡ (n % line_characters c.registers == c.registers.horizontal_sync_position)

-- Clocks count from 1, from the first clock of a frame on. A clock is the last of a frame exactly
-- if its number is a multiple of the clocks of a frame.
abbrev pub FramesHaveTheirClocks : Type 0
FramesHaveTheirClocks =
    (c : State) (n : ℕ) → HaveTheirBits c.registers → BeginsFrame c →
    (tells n c).restart ≡ ((n + 1) % frame_clocks c.registers == 0)
