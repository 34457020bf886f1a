-- The 6845, or cathode ray tube controller. It counts characters, rasters and rows, and outputs the
-- address that is shown and the syncs. (6845 data sheet, Internal Register Assignment.)
use Rattle.std.specs.Prelude.{ℕ, Option, None}

-- Registers R0 to R15.
pub record Registers : Type 0 where
  -- the characters of a line, less one
  pub horizontal_total : ℕ
  -- the characters shown in a line
  pub horizontal_displayed : ℕ
  -- the character that begins horizontal sync
  pub horizontal_sync_position : ℕ
  -- the widths of the syncs: the high digit is the lines of vertical sync
  pub sync_widths : ℕ
  -- the rows of a frame, less one
  pub vertical_total : ℕ
  -- the adjust lines, which follow a frame's rows
  pub vertical_adjust : ℕ
  -- the rows shown in a frame
  pub vertical_displayed : ℕ
  -- the row that begins vertical sync
  pub vertical_sync_position : ℕ
  -- bits 0 and 1 both set: interlace sync and video
  pub interlace : ℕ
  -- the last raster of a row
  pub maximum_raster : ℕ
  -- bits 0 to 4: the cursor's first raster; bits 5 and 6: its blinking
  pub cursor_start : ℕ
  -- the cursor's last raster
  pub cursor_end : ℕ
  -- the address of the frame's first character
  pub start_high : ℕ
  pub start_low : ℕ
  -- the address of the cursor
  pub cursor_high : ℕ
  pub cursor_low : ℕ

pub record State : Type 0 where
  -- the selected register
  pub selected : ℕ
  pub registers : Registers
  -- the next character of the line, its row of the frame, and its raster of the row
  pub character : ℕ
  pub row : ℕ
  pub raster : ℕ
  -- the address of the row's first character
  pub base : ℕ
  -- the number of the adjust line, if the line is one
  pub adjust : Option ℕ
  -- the lines of vertical sync that are left
  pub sync_lines : ℕ
  -- the number of times that vertical sync began, modulo 2^32
  pub fields : ℕ

-- At power-on all is 0. (The first character then begins vertical sync, which is this project's
-- profile.)
abbrev pub power_on : State
power_on = record {
  selected = 0;
  registers = record {
    horizontal_total = 0;
    horizontal_displayed = 0;
    horizontal_sync_position = 0;
    sync_widths = 0;
    vertical_total = 0;
    vertical_adjust = 0;
    vertical_displayed = 0;
    vertical_sync_position = 0;
    interlace = 0;
    maximum_raster = 0;
    cursor_start = 0;
    cursor_end = 0;
    start_high = 0;
    start_low = 0;
    cursor_high = 0;
    cursor_low = 0;
  };
  character = 0;
  row = 0;
  raster = 0;
  base = 0;
  adjust = None;
  sync_lines = 0;
  fields = 0;
}
