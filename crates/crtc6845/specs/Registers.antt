-- Access to the registers: one is selected, and then written or read. (6845 data sheet, Address
-- Register.)
use Rattle.std.specs.Prelude.{ℕ, ◌+◌, ◌*◌, ◌%◌, ◌==◌, if◌then◌else◌}
use Rattle.crtc6845.specs.State.{Registers, State}

-- the 14-bit number of two bytes
abbrev pub word : ℕ → ℕ → ℕ
word high low = 256 * high + low

-- the address of the frame's first character, and that of the cursor
abbrev pub start_address : Registers → ℕ
start_address r = word r.start_high r.start_low

abbrev pub cursor_address : Registers → ℕ
cursor_address r = word r.cursor_high r.cursor_low

-- A selection uses five bits.
abbrev pub select_leaves : ℕ → State → State
select_leaves v c = record c { selected = v % 32 }

-- The registers after a write to one of them. R4, R6, R7 and R10 have seven bits, R5, R9 and R11
-- five, R12 and R14 six, the others eight. Writes to R16 to R31 are ignored.
abbrev pub write_leaves : ℕ → ℕ → Registers → Registers
write_leaves n v r =
    if n == 0 then record r { horizontal_total = v }
    else if n == 1 then record r { horizontal_displayed = v }
    else if n == 2 then record r { horizontal_sync_position = v }
    else if n == 3 then record r { sync_widths = v }
    else if n == 4 then record r { vertical_total = v % 128 }
    else if n == 5 then record r { vertical_adjust = v % 32 }
    else if n == 6 then record r { vertical_displayed = v % 128 }
    else if n == 7 then record r { vertical_sync_position = v % 128 }
    else if n == 8 then record r { interlace = v }
    else if n == 9 then record r { maximum_raster = v % 32 }
    else if n == 10 then record r { cursor_start = v % 128 }
    else if n == 11 then record r { cursor_end = v % 32 }
    else if n == 12 then record r { start_high = v % 64 }
    else if n == 13 then record r { start_low = v }
    else if n == 14 then record r { cursor_high = v % 64 }
    else if n == 15 then record r { cursor_low = v }
    else r

abbrev pub set_leaves : ℕ → State → State
set_leaves v c = record c { registers = write_leaves c.selected v c.registers }

-- R12 to R15 can be read, and the others read 00. (That is this project's profile.)
abbrev pub answer_of : State → ℕ
answer_of c =
    if c.selected == 12 then c.registers.start_high
    else if c.selected == 13 then c.registers.start_low
    else if c.selected == 14 then c.registers.cursor_high
    else if c.selected == 15 then c.registers.cursor_low
    else 0
