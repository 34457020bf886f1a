-- The questions of the tests' talkers, and what they hear.
use Rattle.std.specs.Prelude.{ℕ, zero, suc, ◌+◌, ◌*◌, ◌%◌, Bool, true, false, not, Option, None, Some}
use Rattle.std.proofs.Common.{arith}
use Rattle.beeb_bits.specs.declared.Side.{Side}
use Rattle.tube_chip.specs.declared.Op.TheVariants.{Read, Write}
use Rattle.tube_chip.specs.declared.Answer.{Answer}
use Rattle.tube_chip.specs.declared.Answer.TheVariants.{Byte, Seen}
use Rattle.tube_chip.specs.declared.Lines.{Lines}
use Rattle.beeb_bits.specs.Bits.{weight}
use Rattle.tube_chip.specs.Act.{Query, access, look}
use Rattle.tube_party.specs.Transitions.{MayAsk}

-- A look, as long as looks are left, or an access. What the talker heard picks the register. A
-- talker that polls reads a status register.
abbrev pub asks : ℕ → Bool → Bool → ℕ → Query
asks (suc looks) polls writes heard = look
asks zero true writes heard = access (Read (heard % 4 * 2))
asks zero false true heard = access (Write (heard % 8) heard)
asks zero false false heard = access (Read (heard % 8))

pub may_ask : (looks : ℕ) (polls writes : Bool) (heard : ℕ) (side : Side) → MayAsk side (Some (asks looks polls writes heard))
may_ask (suc looks) polls writes heard side = tt
may_ask zero true writes heard side = omega arith
may_ask zero false true heard side = omega arith
may_ask zero false false heard side = omega arith

-- the number of looks that are left after a step
abbrev pub looks_after : ℕ → ℕ → ℕ
looks_after (suc looks) rest = looks
looks_after zero rest = rest

-- Accesses write and read in turn.
abbrev pub writes_after : ℕ → Bool → Bool
writes_after (suc looks) writes = writes
writes_after zero writes = not writes

abbrev pub heard_lines : Lines → ℕ
heard_lines l = l.nmis % 8 + l.resets % 8 + (weight 16 l.prst + weight 32 l.pirq + weight 64 l.hirq)

abbrev pub heard_of : Option Answer → ℕ
heard_of None = 0
heard_of (Some (Byte b)) = b
heard_of (Some (Seen l)) = heard_lines l

-- everything heard, and this answer
abbrev pub heard_after : ℕ → Option Answer → ℕ
heard_after heard a = (((heard * 5) % 256 + heard_of a) % 256 + 1) % 256
