-- One character clock of the 6845: its outputs, and the state after it. (6845 data sheet,
-- Horizontal and Vertical Timing, Interlace Mode, Cursor; that every field is the even one is this
-- project's profile.)
use Rattle.std.specs.Prelude.{ℕ, ◌+◌, ◌-◌, ◌/◌, ◌%◌, ◌^◌, ◌==◌, ◌&&◌, nat_lt, nat_le, Bool, not, Option, Some, None, is_none, if◌then◌else◌}
use Rattle.beeb_bits.specs.Bits.{bit}
use Rattle.crtc6845.specs.declared.Beam.{Beam}
use Rattle.crtc6845.specs.State.{Registers, State}
use Rattle.crtc6845.specs.Registers.{start_address, cursor_address}

-- First, a line of vertical sync is over at the start of a line. Sync begins if no line of it is
-- left and the line is the first of row R7. Adjust lines belong to no row.
abbrev pub starts_line : State → Bool
starts_line c = c.character == 0

abbrev pub sync_counted : State → State
sync_counted c = record c { sync_lines = c.sync_lines - 1 }

abbrev pub begins_sync : State → Bool
begins_sync c = is_none c.adjust && c.row == c.registers.vertical_sync_position && c.raster == 0 && c.sync_lines == 0

-- the lines of vertical sync: the high digit of R3, or 16 if that is 0
abbrev pub sync_height : Registers → ℕ
sync_height r = if r.sync_widths / 16 == 0 then 16 else r.sync_widths / 16

abbrev pub sync_begun : State → State
sync_begun c = record c { sync_lines = sync_height c.registers; fields = (c.fields + 1) % 2 ^ 32 }

abbrev pub line_started : State → State
line_started c = if begins_sync (sync_counted c) then sync_begun (sync_counted c) else sync_counted c

abbrev pub start_leaves : State → State
start_leaves c = if starts_line c then line_started c else c

-- The drawn frame is finished when vertical sync begins.
abbrev pub finishes_frame : State → Bool
finishes_frame c = starts_line c && begins_sync (sync_counted c)

-- Second, horizontal sync begins at character R2.
abbrev pub begins_horizontal_sync : State → Bool
begins_horizontal_sync c = c.character == c.registers.horizontal_sync_position

-- Third, the character is shown if it is among the first R1 of its line and the first R6 rows, and
-- not in an adjust line.
abbrev pub is_shown : State → Bool
is_shown c = nat_lt c.character c.registers.horizontal_displayed && nat_lt c.row c.registers.vertical_displayed && is_none c.adjust

abbrev pub address : State → ℕ
address c = (c.base + c.character) % 16384

-- The cursor blinks by bits 6 and 5 of R10: always on, never on, on while bit 3 of the count of
-- fields is clear, or on while bit 4 of it is clear.
abbrev pub blinks_on : ℕ → ℕ → Bool
blinks_on start fields =
    if not (bit start 6) then not (bit start 5)
    else if not (bit start 5) then not (bit fields 3)
    else not (bit fields 4)

-- The cursor is at one address, on the rasters from R10's low five bits to R11.
abbrev pub has_cursor : State → Bool
has_cursor c =
    is_shown c && address c == cursor_address c.registers && nat_le (c.registers.cursor_start % 32) c.raster
    && nat_le c.raster c.registers.cursor_end && blinks_on c.registers.cursor_start c.fields

-- Last, the character counts up. Character R0 ends the line. If bits 0 and 1 of R8 are set, a row
-- has every other raster.
abbrev pub ends_line : State → Bool
ends_line c = c.character == c.registers.horizontal_total

abbrev pub is_interlaced : Registers → Bool
is_interlaced r = bit r.interlace 0 && bit r.interlace 1

abbrev pub raster_step : Registers → ℕ
raster_step r = if is_interlaced r then 2 else 1

abbrev pub last_raster : Registers → ℕ
last_raster r = if is_interlaced r then r.maximum_raster - r.maximum_raster % 2 else r.maximum_raster

-- the line is the last of its row, and that row is the last of the frame's R4 + 1
abbrev pub is_row_done : State → Bool
is_row_done c = c.raster == last_raster c.registers

abbrev pub are_rows_done : State → Bool
are_rows_done c = is_row_done c && c.row == c.registers.vertical_total

-- a new frame begins
abbrev pub frame_begun : State → State
frame_begun c = record c { row = 0; raster = 0; adjust = None; base = start_address c.registers }

-- R5 adjust lines follow the rows, if R5 is not 0
abbrev pub adjust_begun : State → State
adjust_begun c = record c { row = c.row + 1; raster = 0; adjust = Some 0 }

abbrev pub row_begun : State → State
row_begun c = record c { row = (c.row + 1) % 128; raster = 0; base = (c.base + c.registers.horizontal_displayed) % 16384 }

abbrev pub raster_begun : State → State
raster_begun c = record c { raster = (c.raster + raster_step c.registers) % 32 }

-- The end of a line of a row, and that of an adjust line.
abbrev pub row_line_ended : State → State
row_line_ended c =
    if are_rows_done c then (if c.registers.vertical_adjust == 0 then frame_begun c else adjust_begun c)
    else if is_row_done c then row_begun c
    else raster_begun c

abbrev pub adjust_line_ended : ℕ → State → State
adjust_line_ended line c =
    if (line + 1) % 32 == c.registers.vertical_adjust then frame_begun c else record c { adjust = Some ((line + 1) % 32) }

abbrev pub line_ended_in : Option ℕ → State → State
line_ended_in None c = row_line_ended c
line_ended_in (Some line) c = adjust_line_ended line c

abbrev pub line_ended : State → State
line_ended c = line_ended_in c.adjust (record c { character = 0 })

abbrev pub count_leaves : State → State
count_leaves c = if ends_line c then line_ended c else record c { character = (c.character + 1) % 256 }

-- the line is the last of its frame
abbrev pub is_last_line_in : Option ℕ → State → Bool
is_last_line_in None c = are_rows_done c && c.registers.vertical_adjust == 0
is_last_line_in (Some line) c = (line + 1) % 32 == c.registers.vertical_adjust

abbrev pub is_last_line : State → Bool
is_last_line c = is_last_line_in c.adjust c

-- The row goes up by one after the character, or a new frame begins after it.
abbrev pub ends_row : State → Bool
ends_row c = ends_line c && is_none c.adjust && is_row_done c && not (is_last_line c)

abbrev pub ends_frame : State → Bool
ends_frame c = ends_line c && is_last_line c

-- The character clock: the state after it, and its outputs.
abbrev pub clock_leaves : State → State
clock_leaves c = count_leaves (start_leaves c)

abbrev pub beam_told : State → State → Beam
beam_told before c = record {
  shown = is_shown c;
  ma = address c;
  ra = c.raster;
  cursor = has_cursor c;
  line_start = starts_line before;
  sync_start = begins_horizontal_sync c;
  frame_end = finishes_frame before;
  fields = c.fields;
  row_end = ends_row c;
  restart = ends_frame c;
}

abbrev pub beam_of : State → Beam
beam_of c = beam_told c (start_leaves c)

-- vertical sync is on
abbrev pub is_in_sync : State → Bool
is_in_sync c = nat_lt 0 c.sync_lines
