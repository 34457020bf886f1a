-- The accesses in a session file: each is one field of seven bytes, the tick in five, the side with
-- the operation and the register in one, and the byte that a line of a trace has.
use Rattle.std.specs.Prelude.{ℕ, zero, suc, ◌+◌, ◌/◌, ◌%◌, ◌==◌, ◌&&◌, nat_lt, nat_le, List, [], ◌∷◌, ◌++◌, take, drop, slice_index, Option, None, Some, Ok, if◌then◌else◌}
use Rattle.std.specs.Int.{w64, from_be_bytes, to_be_bytes}
use Rattle.beeb_bits.specs.declared.Side.{Side}
use Rattle.beeb_bits.specs.declared.Side.TheVariants.{Host, Para}
use Rattle.tube_chip.specs.declared.Op.{Op}
use Rattle.tube_chip.specs.declared.Op.TheVariants.{Read, Write, Reset}
use Rattle.tube_trace.specs.declared.Entry.{Entry}
use Rattle.tube_trace.specs.Line.{reset_of, entry_by}
use Rattle.tube_trace.specs.Text.{number_of, line_byte}
use Rattle.tube_trace.specs.Trace.{follows}
use Rattle.save_state.specs.Fields.{Fields, field, ◌>>=◌}

-- the tick, in five bytes
abbrev pub tick_in : List ℕ → ℕ
tick_in bytes = from_be_bytes w64 (0 ∷ 0 ∷ 0 ∷ take 5 bytes)

-- bit 7 is set for the parasite
abbrev pub side_in : ℕ → Side
side_in form = if nat_le 128 form then Para else Host

-- Bits 6 and 5: 00 a read, 01 a write, 10 a reset, which has register 0 and byte 00 and is the
-- host's.
abbrev pub op_by : ℕ → Side → ℕ → ℕ → Option Op
op_by zero side register byte = Some (Read register)
op_by (suc zero) side register byte = Some (Write register byte)
op_by (suc (suc zero)) side register byte = reset_of side register byte
op_by (suc (suc (suc n))) side register byte = None

-- Bits 4 and 3 are clear, and bits 2 to 0 the register.
abbrev pub op_in : ℕ → ℕ → Option Op
op_in form byte = if form / 8 % 4 == 0 then op_by (form / 32 % 4) (side_in form) (form % 8) byte else None

-- the access of a field, if it is one
abbrev pub entry_in : List ℕ → Option Entry
entry_in bytes =
    entry_by (tick_in bytes) (side_in (slice_index bytes 5)) (slice_index bytes 6) (op_in (slice_index bytes 5) (slice_index bytes 6))

-- an access is below tick `ticks`, and after the one before it
abbrev pub in_order : ℕ → Option Entry → Option Entry → Option Entry
in_order ticks last None = None
in_order ticks last (Some e) = if nat_lt (e.tick).0 ticks && follows last e then Some e else None

unfoldable pub next_entry : ℕ → Option Entry → List ℕ → Option Entry
next_entry ticks last bytes = in_order ticks last (entry_in bytes)

-- the given number of accesses, after access `last`
unfoldable pub entries_at : ℕ → ℕ → Option Entry → Fields (List Entry)
entries_at ticks zero last bytes at = Ok ([], at)
entries_at ticks (suc count) last bytes at = do
  first ← field 7 (next_entry ticks last) bytes at
  others ← entries_at ticks count (Some first.0) bytes first.1
  Ok (first.0 ∷ others.0, others.1)

-- ---- Their bytes

abbrev pub side_bits : Side → ℕ
side_bits Host = 0
side_bits Para = 128

abbrev pub op_bits : Op → ℕ
op_bits (Read register) = 0
op_bits (Write register byte) = 32
op_bits Reset = 64

abbrev pub form_byte : Entry → ℕ
form_byte e = side_bits e.side + op_bits e.op + number_of e.op

-- the low five of the eight bytes of a number
abbrev pub tick_bytes : ℕ → List ℕ
tick_bytes tick = drop 3 (to_be_bytes w64 tick)

unfoldable pub entry_bytes : Entry → List ℕ
entry_bytes e = tick_bytes (e.tick).0 ++ form_byte e ∷ line_byte e.op e.answer ∷ []
