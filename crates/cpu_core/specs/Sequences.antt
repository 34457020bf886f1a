-- The sequence of either processor from one look at its lines to the next, as a list of accesses
-- and the registers after them. A sequence is an instruction, a reset, an NMI or an IRQ. Source:
-- the MCS6500 Hardware Manual, summary of single cycle execution, and the 65C02's data sheet.
use Rattle.std.specs.Prelude.{◌≡◌, ◌≤◌, ℕ, ◌+◌, ◌/◌, ◌%◌, List, [], ◌∷◌, ◌++◌, length, Bool, true, false, cond, not, ◌&&◌, ◌⊎◌, IsTrue, IsNone, Option, Some, None, is_none, IfSome, slice_get, bit_or}
use Rattle.op_table.specs.declared.names.Part.{Part}
use Rattle.op_table.specs.declared.names.Part.TheVariants.{Nmos, Cmos}
use Rattle.op_table.specs.declared.rows.Row.{Row}
use Rattle.cpu_alu.specs.declared.Regs.{Regs}
use Rattle.cpu_alu.specs.declared.Cycle.{Cycle}
use Rattle.cpu_alu.specs.declared.Cycle.TheVariants.{Read, Write}
use Rattle.cpu_alu.specs.declared.flags.TheConstants.{INTERRUPT, PUSHED_BY_INTERRUPT}
use Rattle.cpu_alu.specs.Flags.{has_flag}
use Rattle.cpu_alu.specs.Addresses.{stack}
use Rattle.cpu_core.specs.declared.Sequence.{Sequence}
use Rattle.cpu_core.specs.declared.Sequence.TheVariants.{Instruction, Reset, Nmi, Irq}
use Rattle.cpu_core.specs.State.{State}
use Rattle.cpu_core.specs.Accesses.{byte, row_at, form_of}
use Rattle.cpu_core.specs.Results.{after_opcode, after_vector}

-- an interrupt pushes PC and the flags
abbrev pub interrupt : ℕ → Regs → List Cycle
interrupt vector r =
    Read r.pc ∷ Read r.pc ∷ Write (stack r 0) (r.pc / 256) ∷ Write (stack r 255) (r.pc % 256)
    ∷ Write (stack r 254) (bit_or r.p PUSHED_BY_INTERRUPT) ∷ Read vector ∷ Read (vector + 1) ∷ []

-- a reset reads the addresses to which an interrupt pushes
abbrev pub reset : Regs → List Cycle
reset r =
    Read r.pc ∷ Read r.pc ∷ Read (stack r 0) ∷ Read (stack r 255) ∷ Read (stack r 254) ∷ Read 0xFFFC ∷ Read 0xFFFD ∷ []

-- All accesses of a sequence. The bytes seen determine them up to the next access.
abbrev pub accesses : Part → Sequence → Regs → List (Option ℕ) → List Cycle
accesses part Instruction r seen = Read r.pc ∷ form_of part (row_at part (byte seen 0)) r seen
accesses part Reset r seen = reset r
accesses part Nmi r seen = interrupt 0xFFFA r
accesses part Irq r seen = interrupt 0xFFFE r

-- the registers after a sequence that is over
abbrev pub result_of : Part → Sequence → Regs → List (Option ℕ) → Regs
result_of part Instruction r seen = after_opcode part (row_at part (byte seen 0)) r seen
result_of part _ r seen = after_vector part r seen

-- the access of the cycle in progress, or None if the sequence is over
abbrev pub next_cycle : Part → State → Option Cycle
next_cycle part s = slice_get (accesses part s.sequence s.regs s.seen) (length s.seen)

-- the byte that a cycle shows: that of a read, none for a write
abbrev pub shown_byte : Option Cycle → ℕ → Option ℕ
shown_byte (Some (Read at)) byte = Some byte
shown_byte _ byte = None

-- true if the NMOS part has read an opcode without an instruction
abbrev pub halts : List (Option ℕ) → Part → Sequence → Bool
halts (Some op ∷ []) Nmos Instruction = is_none (row_at Nmos op)
halts _ part sequence = false

abbrev pub halted : Part → State → Bool
halted Nmos s = halts s.seen Nmos s.sequence
halted Cmos s = false

-- true if an instruction has shown nothing yet, so that its opcode is read next
abbrev pub is_start : List (Option ℕ) → Sequence → Bool
is_start [] Instruction = true
is_start _ sequence = false

-- true if the next cycle is the first of an instruction, and not of a reset or an interrupt
abbrev pub starting : State → Bool
starting s = is_start s.seen s.sequence

-- the state one cycle later: a halted part keeps its state, and reads the opcode's address in each
-- cycle
abbrev pub after_byte : Part → State → ℕ → State
after_byte part s byte = cond (halted part s) s (record s { seen = s.seen ++ shown_byte (next_cycle part s) byte ∷ [] })

abbrev pub after : Part → State → Regs
after part s = result_of part s.sequence s.regs s.seen

-- the sequence that begins at a look at the lines: NMI; without one IRQ if I is clear; otherwise
-- the next instruction
abbrev pub sequence_at_look : Bool → Bool → Regs → Sequence
sequence_at_look nmi irq r = cond nmi Nmi (cond (irq && not (has_flag r.p INTERRUPT)) Irq Instruction)

-- the state at the beginning of a sequence
abbrev pub fresh : Sequence → Regs → State
fresh sequence r = record { sequence = sequence; regs = r; seen = [] }

-- At power-on all registers and flags are clear, and a reset begins.
abbrev pub power_on : State
power_on = fresh Reset (record { pc = 0; a = 0; x = 0; y = 0; s = 0; p = 0 })

-- TakesAtLeast holds if an opcode always makes at least as many accesses as its cycles in the
-- instruction table.
abbrev pub TakesAtLeast : Part → ℕ → Type 0
TakesAtLeast part op = IfSome (row_at part op) (λ (row : Row).
    (r : Regs) (seen : List (Option ℕ)) → row.cycles ≤ length (accesses part Instruction r (Some op ∷ seen)))

-- MayTakeJust holds if for some registers the opcode makes exactly as many.
abbrev pub MayTakeJust : Part → ℕ → Type 0
MayTakeJust part op = IfSome (row_at part op) (λ (row : Row). (r : Regs) × (length (accesses part Instruction r (Some op ∷ [])) ≡ row.cycles))

-- HasEnded holds if the sequence is over, or if the part is halted until a reset.
abbrev pub HasEnded : Part → State → Type 0
HasEnded part s = IsNone (next_cycle part s) ⊎ IsTrue (halted part s)
