-- A number of clocks during which vertical sync does not change.
use Rattle.std.specs.Prelude.{ℕ, ◌+◌, ◌-◌, ◌*◌, ◌/◌, ◌%◌, ◌==◌, ◌&&◌, ◌||◌, ◌≡◌, ◌<◌, ◌≤◌, nat_lt, nat_le, Bool, not, Option, Some, None, is_none, if◌then◌else◌}
use Rattle.crtc6845.specs.State.{Registers, State}
use Rattle.crtc6845.specs.Clock.{starts_line, raster_step, last_raster, is_in_sync}
use Rattle.crtc6845.specs.Laws.{clocks, line_characters, row_lines, HaveTheirBits}
use Rattle.crtc6845.specs.Pictures.{sync_line}

-- Vertical sync is as it is now after each of the next n clocks.
abbrev pub StaysInSync : ℕ → State → Type 0
StaysInSync n c = (k : ℕ) → k ≤ n → is_in_sync (clocks k c) ≡ is_in_sync c

-- the ranges of the character and of the registers
pub record Fits (c : State) : Type 0 where
  pub character : c.character < 256
  pub bits : HaveTheirBits c.registers
  pub row : c.registers.vertical_sync_position < 128

-- The clocks before the next one that starts a line. Past R0 the character counts up to 255.
abbrev pub clocks_to_line : State → ℕ
clocks_to_line c =
    if starts_line c then 0
    else if nat_le c.character c.registers.horizontal_total then c.registers.horizontal_total + 1 - c.character
    else 256 - c.character

-- The rasters from `raster` on, by `step`, reach the last of the row. `lines_between` has the lines
-- up to it, or 1.
abbrev pub meets : ℕ → ℕ → ℕ → Bool
meets step last raster = nat_le raster last && (last - raster) % step == 0

abbrev pub lines_between : ℕ → ℕ → ℕ → ℕ
lines_between step last raster = if meets step last raster then (last - raster) / step + 1 else 1

abbrev pub meets_last : Registers → ℕ → Bool
meets_last r raster = meets (raster_step r) (last_raster r) raster

-- A lower bound on the lines that are left of the row, with the current one.
abbrev pub lines_left : Registers → ℕ → ℕ
lines_left r raster = lines_between (raster_step r) (last_raster r) raster

-- Vertical sync begins with the current line, if the sync before it is over.
abbrev pub is_sync_line : State → Bool
is_sync_line c = is_none c.adjust && c.row == c.registers.vertical_sync_position && c.raster == 0

-- A lower bound, at least 1, on the line ends up to the first line of row R7.
abbrev pub lines_before_sync_in : Registers → Option ℕ → ℕ → ℕ → ℕ
lines_before_sync_in r None row raster =
    if nat_lt row r.vertical_sync_position then lines_left r raster + (r.vertical_sync_position - row - 1) * row_lines r
    else if nat_le row r.vertical_total && (not (row == r.vertical_sync_position) || meets_last r raster) then
    lines_left r raster + (r.vertical_total - row) * row_lines r + sync_line r
    else 1
lines_before_sync_in r (Some line) row raster = sync_line r + 1

abbrev pub lines_before_sync : State → ℕ
lines_before_sync c = lines_before_sync_in c.registers c.adjust c.row c.raster

-- While sync is off: a number of lines, from the next start of a line on, before sync begins.
abbrev pub quiet_lines : State → ℕ
quiet_lines c =
    if starts_line c || nat_lt c.registers.horizontal_total c.character then
    (if is_sync_line c then 0 else lines_before_sync c)
    else lines_before_sync c - 1

abbrev pub quiet_lines_by : Bool → State → ℕ
quiet_lines_by on c = if on then c.sync_lines - 1 else quiet_lines c

-- a number of clocks during which vertical sync does not change
abbrev pub calm_of : State → ℕ
calm_of c = clocks_to_line c + quiet_lines_by (is_in_sync c) c * line_characters c.registers
