-- The sequences of the NMOS 6502 from one look at its lines to the next: the definitions for both
-- parts, applied to this one.
use Rattle.std.specs.Prelude.{ℕ, Bool, Option}
use Rattle.op_table.specs.declared.names.Part.TheVariants.{Nmos}
use Rattle.cpu_alu.specs.declared.Regs.{Regs}
use Rattle.cpu_alu.specs.declared.Cycle.{Cycle}
use Rattle.cpu_core.specs.State.{State}
use Rattle.cpu_core.specs.Sequences as both
pub use Rattle.cpu_core.specs.Sequences.{starting, sequence_at_look, fresh, power_on}

-- the access of the cycle in progress, or None if the sequence is over
abbrev pub next_cycle : State → Option Cycle
next_cycle s = both.next_cycle Nmos s

-- the state one cycle later
abbrev pub after_byte : State → ℕ → State
after_byte s byte = both.after_byte Nmos s byte

-- true if an opcode outside the 151 was read: its address is then read in each cycle until a reset
abbrev pub halted : State → Bool
halted s = both.halted Nmos s

-- the registers after a sequence that is over or halted
abbrev pub after : State → Regs
after s = both.after Nmos s

abbrev pub HasEnded : State → Type 0
HasEnded s = both.HasEnded Nmos s

-- TakesAtLeast holds if an opcode always makes at least as many accesses as its cycles in the
-- instruction table.
abbrev pub TakesAtLeast : ℕ → Type 0
TakesAtLeast op = both.TakesAtLeast Nmos op

-- MayTakeJust holds if for some registers the opcode makes exactly as many.
abbrev pub MayTakeJust : ℕ → Type 0
MayTakeJust op = both.MayTakeJust Nmos op
