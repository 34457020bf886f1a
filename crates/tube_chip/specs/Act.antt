-- What an operation of one side does to the chip, and what it answers.
use Rattle.std.specs.Prelude.{ℕ, ◌≡◌, ◌+◌, ◌/◌, ◌%◌, ◌^◌, ◌<◌, ◌==◌, ◌&&◌, nat_lt, Bool, true, not, if◌then◌else◌}
use Rattle.beeb_bits.specs.Bits.{bit, weight}
use Rattle.beeb_bits.specs.declared.Side.{Side}
use Rattle.beeb_bits.specs.declared.Side.TheVariants.{Host, Para}
use Rattle.tube_chip.specs.declared.Op.{Op}
use Rattle.tube_chip.specs.declared.Op.TheVariants.{Read, Write, Reset}
use Rattle.tube_chip.specs.declared.Answer.{Answer}
use Rattle.tube_chip.specs.declared.Answer.TheVariants.{Byte, Seen}
use Rattle.tube_chip.specs.Register.{count, front_of, take_leaves, write_leaves}
use Rattle.tube_chip.specs.State.{State, Flags, register, with_register, incoming_bank, outgoing_bank, with_incoming, with_outgoing, capacity}
use Rattle.tube_chip.specs.State.{is_empty, is_ready, wants_service, asks_nmi, lines_of, clear_leaves, no_flags}

-- A side may do this operation: the number is one of the eight, and the reset is the host's.
abbrev pub MayDo : Side → Op → Type 0
MayDo side (Read number) = number < 8
MayDo side (Write number byte) = number < 8
MayDo side Reset = side ≡ Host

-- Numbers 0, 2, 4, 6 are the status of registers 1 to 4, and 1, 3, 5, 7 their byte.
abbrev pub is_status : ℕ → Bool
is_status number = number % 2 == 0

abbrev pub register_number : ℕ → ℕ
register_number number = number / 2 + 1

-- P V M J I Q, from bit 5 to bit 0
abbrev pub flags_byte : Flags → ℕ
flags_byte f = weight 32 f.p + weight 16 f.v + weight 8 f.m + weight 4 f.j + weight 2 f.i + weight 1 f.q

-- Bit 7 of a status: the register holds what the side may read. For register 3 the parasite sees N.
abbrev pub is_available : Side → ℕ → State → Bool
is_available Host k c = if k == 3 then is_ready c.flags.v c.to_host.r3 else not (is_empty (register k c.to_host))
is_available Para k c = if k == 3 then wants_service c else not (is_empty (register k c.to_para))

-- Bit 6 of a status: the register has room for what the side writes.
abbrev pub is_not_full : Side → ℕ → State → Bool
is_not_full side k c = nat_lt (count (register k (outgoing_bank side c))) (capacity side k c.flags)

-- The status of a register: the low six bits are the flags for register 1, and ones for the others.
abbrev pub status : Side → ℕ → State → ℕ
status side k c = weight 128 (is_available side k c) + weight 64 (is_not_full side k c) + (if k == 1 then flags_byte c.flags else 63)

-- The answer to an operation: 00 for a write and for the reset.
abbrev pub answer_of : State → Side → Op → ℕ
answer_of c side (Read number) =
    if is_status number then status side (register_number number) c
    else front_of (register (register_number number) (incoming_bank side c))
answer_of c side (Write number byte) = 0
answer_of c side Reset = 0

-- a flag: `set` if bit n of the byte marks it, otherwise as it was
abbrev pub flag_after : ℕ → ℕ → Bool → Bool → Bool
flag_after byte n set flag = if bit byte n then set else flag

-- The flags after a write to the control register: the marked ones become set if S (bit 7) is set,
-- otherwise clear.
abbrev pub flags_after : ℕ → Flags → Flags
flags_after byte f = record {
  p = flag_after byte 5 (bit byte 7) f.p;
  v = flag_after byte 4 (bit byte 7) f.v;
  m = flag_after byte 3 (bit byte 7) f.m;
  j = flag_after byte 2 (bit byte 7) f.j;
  i = flag_after byte 1 (bit byte 7) f.i;
  q = flag_after byte 0 (bit byte 7) f.q;
}

-- A write to the control register. T (bit 6) clears the registers if S is set. (That T acts once,
-- and only then, is this project's profile.)
abbrev pub control_leaves : ℕ → State → State
control_leaves byte c =
    if bit byte 7 && bit byte 6 then clear_leaves (record c { flags = flags_after byte c.flags })
    else record c { flags = flags_after byte c.flags }

-- The chip after a side has read the byte of register k.
abbrev pub read_by : Side → ℕ → State → State
read_by side k c = with_incoming side (with_register k (take_leaves (register k (incoming_bank side c))) (incoming_bank side c)) c

-- The chip after a side has written the byte of register k.
abbrev pub written_by : Side → ℕ → ℕ → State → State
written_by side k byte c =
    with_outgoing side (with_register k (write_leaves (capacity side k c.flags) byte (register k (outgoing_bank side c))) (outgoing_bank side c)) c

-- a write to a status number: only the host's to number 0 has an effect
abbrev pub status_written : Side → ℕ → ℕ → State → State
status_written Host number byte c = if number == 0 then control_leaves byte c else c
status_written Para number byte c = c

-- The chip after an operation, without the counts. (That a reset clears flags and registers is this
-- project's profile.)
abbrev pub op_leaves : State → Side → Op → State
op_leaves c side (Read number) = if is_status number then c else read_by side (register_number number) c
op_leaves c side (Write number byte) =
    if is_status number then status_written side number byte c else written_by side (register_number number) byte c
op_leaves c side Reset = clear_leaves (record c { flags = no_flags })

-- the count, plus one if something holds now that did not before; the counts have 32 bits
abbrev pub count_of_rises : Bool → Bool → ℕ → ℕ
count_of_rises before now n = if not before && now then (n + 1) % 2 ^ 32 else n

-- the new chip with the two counts, of the rises of "M and N" and of P
abbrev pub with_counts : State → State → State
with_counts old new = record new {
  nmis = count_of_rises (asks_nmi old) (asks_nmi new) old.nmis;
  resets = count_of_rises old.flags.p new.flags.p old.resets;
}

-- The chip after an operation. A reset counts as one for any P, and leaves the count of NMIs.
abbrev pub chip_after : State → Side → Op → State
chip_after c side (Read number) = with_counts c (op_leaves c side (Read number))
chip_after c side (Write number byte) = with_counts c (op_leaves c side (Write number byte))
chip_after c side Reset = record (op_leaves c side Reset) { resets = (c.resets + 1) % 2 ^ 32 }

-- What a step asks of the chip: an access, or a look at the lines.
pub data Query : Type 0 where
  access : Op → Query
  look : Query

-- The new chip and the answer; a look changes nothing.
abbrev pub act : State → Side → Query → State × Answer
act c side (access op) = (chip_after c side op, Byte (answer_of c side op))
act c side look = (c, Seen (lines_of c))

-- The side may do this operation, and it leaves the lines and the flags unchanged.
abbrev pub LeavesLines : State → Side → Op → Type 0
LeavesLines c side op = MayDo side op × (lines_of (chip_after c side op) ≡ lines_of c) × ((chip_after c side op).flags ≡ c.flags)

-- A side reads equal bytes of its status registers at both chips.
abbrev pub ShowsAlike : Side → State → State → Type 0
ShowsAlike side c d = (number : ℕ) → is_status number ≡ true → answer_of d side (Read number) ≡ answer_of c side (Read number)

-- An operation of the host leaves all that the parasite can observe without changing the chip: the
-- lines, and its status registers.
abbrev pub LeavesSeen : State → Op → Type 0
LeavesSeen c op = LeavesLines c Host op × ShowsAlike Para c (chip_after c Host op)
