-- Each register of the Tube is a queue in each direction, over each run of accesses and looks of
-- both sides. (Application Note 004, registers and status: register 1 to the host has 24 bytes,
-- register 3 one or two by V, each other one.)
use Rattle.std.specs.Prelude.{ℕ, ◌-◌, ◌*◌, ◌≡◌, ◌≤◌, ◌==◌, ◌&&◌, ◌||◌, nat_lt, Bool, true, false, not, List, [], ◌∷◌, ◌++◌, length, take, Option, None, Some, is_some, if◌then◌else◌}
use Rattle.beeb_bits.specs.Bits.{bit}
use Rattle.beeb_bits.specs.declared.Side.{Side}
use Rattle.beeb_bits.specs.declared.Side.TheVariants.{Host, Para}
use Rattle.tube_chip.specs.declared.Op.{Op}
use Rattle.tube_chip.specs.declared.Op.TheVariants.{Read, Write, Reset}
use Rattle.tube_chip.specs.declared.Answer.{Answer}
use Rattle.tube_chip.specs.declared.Answer.TheVariants.{Byte, Seen}
use Rattle.tube_chip.specs.Register.{Register, held_bytes}
use Rattle.tube_chip.specs.State.{State, register, outgoing_bank, capacity, is_empty, power_on}
use Rattle.tube_chip.specs.Act.{MayDo, Query, access, look, is_not_full, chip_after, act}
use Rattle.tube_chip.specs.Events.{Event, IsAnsweredFrom, after_from, is_side}

-- the side that reads the bytes that `from` writes
abbrev pub reader : Side → Side
reader Host = Para
reader Para = Host

-- register `k`, in the direction away from `from`
abbrev pub queue : Side → ℕ → State → Register
queue from k c = register k (outgoing_bank from c)

-- the address of the byte of register `k`
abbrev pub byte_number : ℕ → ℕ
byte_number k = 2 * k - 1

abbrev pub op_writes : ℕ → Op → Option ℕ
op_writes k (Read number) = None
op_writes k (Write number byte) = if number == byte_number k then Some byte else None
op_writes k Reset = None

abbrev pub op_reads : ℕ → Op → Bool
op_reads k (Read number) = number == byte_number k
op_reads k (Write number byte) = false
op_reads k Reset = false

-- A write to the control register with S and T set, or a reset, clears all registers.
abbrev pub op_clears : Op → Bool
op_clears (Read number) = false
op_clears (Write number byte) = (number == 0) && (bit byte 7 && bit byte 6)
op_clears Reset = true

abbrev pub query_writes : ℕ → Query → Option ℕ
query_writes k look = None
query_writes k (access op) = op_writes k op

abbrev pub query_reads : ℕ → Query → Bool
query_reads k look = false
query_reads k (access op) = op_reads k op

abbrev pub query_clears : Query → Bool
query_clears look = false
query_clears (access op) = op_clears op

-- the byte that an event of side `from` writes to register `k`, if it writes one
abbrev pub byte_sent : Side → ℕ → Event → Option ℕ
byte_sent from k e = if is_side from e.side then query_writes k e.query else None

-- The event reads the byte of register `k` that `from` wrote.
abbrev pub is_read : Side → ℕ → Event → Bool
is_read from k e = is_side (reader from) e.side && query_reads k e.query

abbrev pub clears : Event → Bool
clears e = is_side Host e.side && query_clears e.query

-- The event destroys the contents of the register: it clears all registers, or it writes to a
-- register for one byte that is not empty.
abbrev pub destroys : Side → ℕ → State → Event → Bool
destroys from k c e = clears e || (is_some (byte_sent from k e) && ((capacity from k c.flags == 1) && not (is_empty (queue from k c))))

abbrev pub byte_shown : Answer → List ℕ
byte_shown (Byte byte) = byte ∷ []
byte_shown (Seen lines) = []

-- the byte that was read, if the register was not empty
abbrev pub read_out : Side → ℕ → State → Event → List ℕ
read_out from k c e = if is_read from k e && not (is_empty (queue from k c)) then byte_shown e.answer else []

abbrev pub the_byte : Option ℕ → List ℕ
the_byte None = []
the_byte (Some byte) = byte ∷ []

-- the byte that was written, if bit 6 of the writer's status showed that the register was not full
abbrev pub written_in : Side → ℕ → State → Event → List ℕ
written_in from k c e = if is_not_full from k c then the_byte (byte_sent from k e) else []

-- the bytes that leave the register: all its contents if they are destroyed, otherwise the byte
-- that is read
abbrev pub leaves : Side → ℕ → State → Event → List ℕ
leaves from k c e = if destroys from k c e then held_bytes (queue from k c) else read_out from k c e

-- The bytes that enter the register. If all registers are cleared: its contents at power-on, a byte
-- 00 in register 3 to the host. If its contents are destroyed: the new byte. Otherwise: the byte
-- that is written while the register is not full.
abbrev pub comes : Side → ℕ → State → Event → List ℕ
comes from k c e =
    if clears e then held_bytes (queue from k power_on)
    else if destroys from k c e then the_byte (byte_sent from k e)
    else written_in from k c e

-- the concatenated lists `f` of all events of a run, each from the chip before the event
abbrev pub over : (State → Event → List ℕ) → State → List Event → List ℕ
over f c [] = []
over f c (e ∷ events) = f c e ++ over f (act c e.side e.query).0 events

-- an access to one of the eight addresses, or a look
abbrev pub MayAsk : Side → Query → Type 0
MayAsk side look = Unit {0}
MayAsk side (access op) = MayDo side op

abbrev pub MayCome : List Event → Type 0
MayCome [] = Unit {0}
MayCome (e ∷ events) = MayAsk e.side e.query × MayCome events

-- No event destroys the contents of the register.
abbrev pub DestroysNothing : Side → ℕ → State → List Event → Type 0
DestroysNothing from k c [] = Unit {0}
DestroysNothing from k c (e ∷ events) = (destroys from k c e ≡ false) × DestroysNothing from k (act c e.side e.query).0 events

abbrev pub ClearsNothing : List Event → Type 0
ClearsNothing [] = Unit {0}
ClearsNothing (e ∷ events) = (clears e ≡ false) × ClearsNothing events

-- In each run with the chip's answers, the bytes that left a register, followed by its contents at
-- the end, are its contents at the beginning, followed by the bytes that entered.
abbrev pub RegistersAreQueues : Type 0
RegistersAreQueues =
    (from : Side) (k : ℕ) (c : State) (events : List Event) → 1 ≤ k → k ≤ 4 → MayCome events → IsAnsweredFrom c events →
    over (leaves from k) c events ++ held_bytes (queue from k (after_from c events)) ≡ held_bytes (queue from k c) ++ over (comes from k) c events

-- If nothing is destroyed, nothing is lost or made. The bytes that were read, followed by those
-- left, are the bytes that were there, followed by those written while the register was not full.
abbrev pub NothingIsLost : Type 0
NothingIsLost =
    (from : Side) (k : ℕ) (c : State) (events : List Event) → 1 ≤ k → k ≤ 4 → MayCome events → IsAnsweredFrom c events →
    DestroysNothing from k c events →
    over (read_out from k) c events ++ held_bytes (queue from k (after_from c events)) ≡ held_bytes (queue from k c) ++ over (written_in from k) c events

-- In register 1 to the host this holds for all writes, until the registers are cleared.
abbrev pub FifoLosesNothing : Type 0
FifoLosesNothing =
    (c : State) (events : List Event) → MayCome events → IsAnsweredFrom c events → ClearsNothing events →
    over (read_out Para 1) c events ++ held_bytes (queue Para 1 (after_from c events)) ≡ held_bytes (queue Para 1 c) ++ over (written_in Para 1) c events

-- ---- The number of bytes that a register holds

-- side `from` writes these bytes to register `k`, one after the other
abbrev pub all_written : Side → ℕ → List ℕ → State → State
all_written from k [] c = c
all_written from k (byte ∷ bytes) c = all_written from k bytes (chip_after c from (Write (byte_number k) byte))

-- Register `k` has room for `room` bytes from a side. If it is empty and bytes are written to it,
-- it holds the first `room` of them. Bit 6 of its status is set while it holds fewer.
pub record HasRoom (from : Side) (k room : ℕ) (c : State) : Type 0 where
  pub holds : (bytes : List ℕ) → is_empty (queue from k c) ≡ true → held_bytes (queue from k (all_written from k bytes c)) ≡ take room bytes
  pub shows : is_not_full from k c ≡ nat_lt (length (held_bytes (queue from k c))) room

-- Register `k` has room for one byte. It holds the byte that was written last, and bit 6 of its
-- status is set while it is empty.
pub record IsForOne (from : Side) (k : ℕ) (c : State) : Type 0 where
  pub holds : (byte : ℕ) → held_bytes (queue from k (chip_after c from (Write (byte_number k) byte))) ≡ byte ∷ []
  pub shows : is_not_full from k c ≡ is_empty (queue from k c)

pub record RegistersHold : Type 0 where
  -- register 1 to the host: 24 bytes
  pub fifo : (c : State) → HasRoom Para 1 24 c
  -- register 3: two bytes in each direction if V is set, otherwise one
  pub pair : (from : Side) (c : State) → c.flags.v ≡ true → HasRoom from 3 2 c
  pub single : (from : Side) (c : State) → c.flags.v ≡ false → IsForOne from 3 c
  -- every other register: one byte
  pub first : (c : State) → IsForOne Host 1 c
  pub second : (from : Side) (c : State) → IsForOne from 2 c
  pub fourth : (from : Side) (c : State) → IsForOne from 4 c
