-- Conditions that the code tests separately.
use Rattle.std.specs.Prelude.{◌%◌, ◌==◌, ◌&&◌, nat_le, Bool, true, false, not, is_none}
use Rattle.crtc6845.specs.declared.Beam.{Beam}
use Rattle.crtc6845.specs.State.{State}
use Rattle.crtc6845.specs.Registers.{start_address}
use Rattle.crtc6845.specs.Clock.{starts_line, begins_horizontal_sync, address, blinks_on, ends_line, is_row_done, is_last_line}

-- the cursor is on the current raster, and not blinked off
abbrev pub cursor_is_on : State → Bool
cursor_is_on c =
    nat_le (c.registers.cursor_start % 32) c.raster && nat_le c.raster c.registers.cursor_end && blinks_on c.registers.cursor_start c.fields

-- the line is the last of its row, and another row follows
abbrev pub ends_row_line : State → Bool
ends_row_line c = is_none c.adjust && is_row_done c && not (is_last_line c)

-- Each character is a whole line and a whole frame, and is not shown. A clock changes only the
-- state of vertical sync.
abbrev pub is_quiet : State → Bool
is_quiet c =
    starts_line c && ends_line c && c.registers.horizontal_displayed == 0 && c.row == 0 && c.raster == 0 && is_none c.adjust
    && is_last_line c && c.base == start_address c.registers

-- The outputs of a character clock that leaves the chip c quiet. Only `frame_end` differs between
-- such clocks.
abbrev pub quiet_beam : Bool → State → Beam
quiet_beam finishes c = record {
  shown = false;
  ma = address c;
  ra = c.raster;
  cursor = false;
  line_start = true;
  sync_start = begins_horizontal_sync c;
  frame_end = finishes;
  fields = c.fields;
  row_end = false;
  restart = true;
}
