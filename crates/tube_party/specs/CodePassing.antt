-- The accesses that the port answers, with both parties on one thread.
use Rattle.std.specs.Prelude.{ℕ, ◌≡◌, ◌<◌, Bool, true}
use Rattle.beeb_bits.specs.declared.Side.{Side}
use Rattle.beeb_bits.specs.declared.Side.TheVariants.{Host, Para}
use Rattle.tube_chip.specs.State.{State, lines_of}
use Rattle.tube_chip.specs.declared.Op.{Op}
use Rattle.tube_chip.specs.declared.Op.TheVariants.{Read, Write, Reset}
use Rattle.tube_chip.specs.Act.{MayDo, ShowsAlike, is_status, chip_after, answer_of}
use Rattle.tube_trace.specs.declared.Entry.{Entry}
use Rattle.tube_party.specs.declared.log.Log.{Log}
use Rattle.tube_party.specs.declared.chip_port.ChipPort.{ChipPort}
use Rattle.tube_party.specs.declared.party.Ask.{Ask}
use Rattle.tube_party.specs.declared.party.Ask.TheVariants.{Nothing, Access, Look}
use Rattle.tube_party.specs.CodeAtWork.{own_of}
use Rattle.tube_party.specs.Logs.{HasNoted}

-- The chip, both sides' logs, the side in turn, the tick below which accesses are answered, and
-- `true` if the parasite reads its status registers ahead of the host.
pub record ChipPortState : Type 0 where
  pub chip : State
  pub host : Log
  pub para : Log
  pub turn : Side
  pub safe_until : ℕ
  pub is_read : Bool

abbrev pub chip_port_state : ChipPort → ChipPortState
chip_port_state t = record { chip = t.chip; host = t.host_log; para = t.para_log; turn = t.turn; safe_until = (t.safe_until).0; is_read = t.is_read }

-- The lines and the flags stay, and if the parasite reads its status registers ahead, what they
-- show stays too.
abbrev pub StaysSeen : Bool → State → State → Type 0
StaysSeen is_read c d = (lines_of d ≡ lines_of c) × (d.flags ≡ c.flags) × (is_read ≡ true → ShowsAlike Para c d)

-- The operation reads a status register.
abbrev pub IsStatusRead : Op → Type 0
IsStatusRead (Read number) = is_status number ≡ true
IsStatusRead (Write number byte) = ⊥
IsStatusRead Reset = ⊥

-- An access of a side may be answered by the port. Ahead of the host, the parasite only reads its
-- status registers.
abbrev pub MayPass : State → Side → Bool → Op → Type 0
MayPass c side is_read op = MayDo side op × StaysSeen is_read c (chip_after c side op) × (is_read ≡ true → side ≡ Para → IsStatusRead op)

-- the chip after what the host asks
abbrev pub chip_behind : State → Ask → State
chip_behind c Nothing = c
chip_behind c (Access t op) = chip_after c Host op
chip_behind c (Look t) = c

-- the access, as an entry of the side whose turn it is
abbrev pub passed_entry : Side → ℕ → Op → ℕ → Entry
passed_entry side tick op byte = record { tick = record { 0 = tick }; side = side; op = op; answer = byte }

-- An access of the side in turn below tick `safe_until` was done at the chip, and noted.
pub record IsPassed (old : ChipPortState) (tick : ℕ) (op : Op) (byte : ℕ) (new : ChipPortState) : Type 0 where
  pub early : tick < old.safe_until
  pub byte_is : byte ≡ answer_of old.chip old.turn op
  pub chip_is : new.chip ≡ chip_after old.chip old.turn op
  pub stays : StaysSeen old.is_read old.chip (chip_after old.chip old.turn op)
  pub reads : old.is_read ≡ true → old.turn ≡ Para → IsStatusRead op
  pub host_noted : HasNoted (own_of Host (passed_entry old.turn tick op byte)) old.host new.host
  pub para_noted : HasNoted (own_of Para (passed_entry old.turn tick op byte)) old.para new.para
  pub turn_is : new.turn ≡ old.turn
  pub safe_until_is : new.safe_until ≡ old.safe_until
  pub is_read_is : new.is_read ≡ old.is_read
