-- One line of a trace: `TTTTTTTTTT S O N BB` and a line feed, with the tick in ten digits, the side
-- H or P, the operation R, W or X, the number from 0 to 7, and the byte answered or written in two
-- digits. (This project's own format.)
use Rattle.std.specs.Prelude.{ℕ, ◌-◌, ◌==◌, ◌&&◌, nat_le, Bool, List, [], ◌∷◌, length, slice_index, slice_range, Option, Some, None, if◌then◌else◌}
use Rattle.std.specs.List.{list_all}
use Rattle.beeb_bits.specs.declared.Side.{Side}
use Rattle.beeb_bits.specs.declared.Side.TheVariants.{Host, Para}
use Rattle.tube_chip.specs.declared.Op.{Op}
use Rattle.tube_chip.specs.declared.Op.TheVariants.{Read, Write, Reset}
use Rattle.tube_trace.specs.declared.Entry.{Entry}
use Rattle.digits.specs.Hexadecimal.{is_hex, hex_number}

-- a space
abbrev pub is_space : ℕ → Bool
is_space b = b == 32

-- `0` to `7`
abbrev pub is_octal : ℕ → Bool
is_octal b = nat_le 48 b && nat_le b 55

-- the side of `H` or `P`
abbrev pub side_of : ℕ → Option Side
side_of b = if b == 72 then Some Host else if b == 80 then Some Para else None

-- the reset of `X`, which is the host's and has number 0 and byte 00
abbrev pub reset_of : Side → ℕ → ℕ → Option Op
reset_of Host number byte = if number == 0 && byte == 0 then Some Reset else None
reset_of Para number byte = None

-- The operation of `R` or `W`, on a number, with the line's byte, or of `X`.
abbrev pub op_of : Side → ℕ → ℕ → ℕ → Option Op
op_of side letter number byte =
    if letter == 82 then Some (Read number)
    else if letter == 87 then Some (Write number byte)
    else if letter == 88 then reset_of side number byte
    else None

-- The line's byte is the answer of a read. A write and a reset answer 00.
abbrev pub answer_in : Op → ℕ → ℕ
answer_in (Read number) byte = byte
answer_in (Write number written) byte = 0
answer_in Reset byte = 0

abbrev pub entry_by : ℕ → Side → ℕ → Option Op → Option Entry
entry_by tick side byte (Some op) = Some (record { tick = record { 0 = tick }; side = side; op = op; answer = answer_in op byte })
entry_by tick side byte None = None

abbrev pub entry_from : ℕ → Option Side → ℕ → ℕ → ℕ → Option Entry
entry_from tick (Some side) letter number byte = entry_by tick side byte (op_of side letter number byte)
entry_from tick None letter number byte = None

-- The twenty bytes by their places: 0 to 9 the tick's digits, 11 the side's letter, 13 the
-- operation's letter, 15 the number's digit, 17 and 18 the byte's digits, spaces between them, and
-- 19 the line feed.
abbrev pub is_formed : List ℕ → Bool
is_formed line =
    list_all is_hex (slice_range line 0 10)
    && list_all is_space (slice_index line 10 ∷ slice_index line 12 ∷ slice_index line 14 ∷ slice_index line 16 ∷ [])
    && is_octal (slice_index line 15)
    && list_all is_hex (slice_range line 17 19)
    && slice_index line 19 == 10

abbrev pub entry_in : List ℕ → Option Entry
entry_in line =
    entry_from (hex_number (slice_range line 0 10)) (side_of (slice_index line 11))
    (slice_index line 13) (slice_index line 15 - 48) (hex_number (slice_range line 17 19))

-- The entry of a line with its line feed, or none if the bytes are outside the form.
unfoldable pub entry_of : List ℕ → Option Entry
entry_of line = if length line == 20 && is_formed line then entry_in line else None
