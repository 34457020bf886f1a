-- The place of vertical sync in the frames of a chip whose registers are not written, and the
-- addresses that the frames show. (6845 data sheet, Horizontal and Vertical Timing, Memory
-- Addresses.)
use Rattle.std.specs.Prelude.{ℕ, ◌+◌, ◌*◌, ◌/◌, ◌%◌, ◌==◌, ◌&&◌, ◌≡◌, ◌<◌, ◌≤◌, nat_lt, nat_le, true, false}
use Rattle.crtc6845.specs.State.{Registers, State}
use Rattle.crtc6845.specs.Registers.{start_address}
use Rattle.crtc6845.specs.Clock.{sync_height, clock_leaves, is_in_sync}
use Rattle.crtc6845.specs.Laws.{clocks, tells, line_characters, row_lines, frame_lines, frame_clocks, HaveTheirBits, BeginsFrame}

-- The line of clock n in its frame, if clocks count from 0, from the first clock of a frame on.
abbrev pub line_at : Registers → ℕ → ℕ
line_at r n = n / line_characters r % frame_lines r

-- The first line of row R7, counted from the frame's first.
abbrev pub sync_line : Registers → ℕ
sync_line r = r.vertical_sync_position * row_lines r

-- The frame has row R7, and at least as many lines as vertical sync.
pub record HasItsSync (r : Registers) : Type 0 where
  pub row : r.vertical_sync_position ≤ r.vertical_total
  pub height : sync_height r ≤ frame_lines r

-- Clocks count from 0, from the first clock of a frame on. Vertical sync begins with the first
-- character of row R7 of each frame, and with no other clock. An earlier sync must be over by then.
abbrev pub VerticalSyncComesInEachFrame : Type 0
VerticalSyncComesInEachFrame =
    (c : State) (n : ℕ) → HaveTheirBits c.registers → HasItsSync c.registers → BeginsFrame c → c.sync_lines ≤ sync_line c.registers + 1 →
    (tells n c).frame_end ≡ (n % frame_clocks c.registers == sync_line c.registers * line_characters c.registers)

-- Vertical sync never begins if a frame has no row R7.
abbrev pub NoSyncBeyondTheRows : Type 0
NoSyncBeyondTheRows =
    (c : State) (n : ℕ) → HaveTheirBits c.registers → c.registers.vertical_total < c.registers.vertical_sync_position → BeginsFrame c →
    (tells n c).frame_end ≡ false

-- The frame has row R7, and at least as many lines from the first of that row on as vertical sync.
pub record HoldsItsSync (r : Registers) : Type 0 where
  pub row : r.vertical_sync_position ≤ r.vertical_total
  pub height : sync_line r + sync_height r ≤ frame_lines r

-- The frame begins with at most one line of sync left, which is over with the first clock. After a
-- clock, vertical sync is on exactly if the clock is in one of the lines of sync, which begin with
-- row R7.
abbrev pub VerticalSyncHasItsLines : Type 0
VerticalSyncHasItsLines =
    (c : State) (n : ℕ) → HaveTheirBits c.registers → HoldsItsSync c.registers → BeginsFrame c → c.sync_lines ≤ 1 →
    is_in_sync (clock_leaves (clocks n c))
    ≡ (nat_le (sync_line c.registers) (line_at c.registers n) && nat_lt (line_at c.registers n) (sync_line c.registers + sync_height c.registers))

-- The row of clock n's line, if it is no adjust line, and the character of clock n in the line.
abbrev pub row_at : Registers → ℕ → ℕ
row_at r n = line_at r n / row_lines r

abbrev pub column_at : Registers → ℕ → ℕ
column_at r n = n % line_characters r

-- The frame begins at the start address. The address of a shown character is the start address,
-- plus R1 for each row above, plus one for each character before it in its line, modulo 2^14.
abbrev pub ShownAddressesCount : Type 0
ShownAddressesCount =
    (c : State) (n : ℕ) → HaveTheirBits c.registers → BeginsFrame c → c.base ≡ start_address c.registers → (tells n c).shown ≡ true →
    (tells n c).ma ≡ (start_address c.registers + row_at c.registers n * c.registers.horizontal_displayed + column_at c.registers n) % 16384
