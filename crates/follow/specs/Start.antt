-- The start of an instruction, as a listing shows it.
use Rattle.std.specs.Prelude.{ℕ, zero, suc, ◌+◌, nat_lt, List, [], ◌∷◌, Option, None, Some, if◌then◌else◌}
use Rattle.cpu_alu.specs.declared.Regs.{Regs}
use Rattle.tube_party.specs.Transitions.{Transitions}
use Rattle.follow.specs.Sight.{Sight}

-- A start: the tick of its first cycle, the registers, the bytes in memory from the program counter
-- on, and the watched byte.
pub record StartState : Type 0 where
  pub tick : ℕ
  pub regs : Regs
  pub code : List ℕ
  pub watched : Option ℕ

-- a byte before others; no bytes if there is no byte
abbrev pub front : Option ℕ → List ℕ → List ℕ
front None bytes = []
front (Some b) bytes = b ∷ bytes

-- the byte in memory at an address, or none past FFFF
abbrev pub byte_at : (ℕ → Option ℕ) → ℕ → Option ℕ
byte_at peek at = if nat_lt at 65536 then peek at else None

-- Up to `k` bytes in memory from address `at` on, without a gap and not past FFFF.
abbrev pub bytes_from : (ℕ → Option ℕ) → ℕ → ℕ → List ℕ
bytes_from peek zero at = []
bytes_from peek (suc k) at = front (byte_at peek at) (bytes_from peek k (at + 1))

-- the byte at the watched address, if one is given and it is in memory
abbrev pub watched_byte : Option ℕ → (ℕ → Option ℕ) → Option ℕ
watched_byte None peek = None
watched_byte (Some at) peek = peek at

-- the start of a state that starts an instruction
abbrev pub start_at : ℕ → Option ℕ → Sight → StartState
start_at tick watch x = record { tick = tick; regs = x.regs; code = bytes_from x.peek 3 x.regs.pc; watched = watched_byte watch x.peek }

abbrev pub start_of : {S : Type 0} → Transitions S → (S → Sight) → Option ℕ → S → StartState
start_of m sights watch s = start_at (m.due s) watch (sights s)
