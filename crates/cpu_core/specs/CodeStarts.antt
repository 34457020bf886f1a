-- The first cycle of each instruction after its opcode.
use Rattle.std.specs.Prelude.{ℕ, Bool, true, false, Option, Some, None}
use Rattle.op_table.specs.declared.Part.{Part}
use Rattle.op_table.specs.declared.Row.{Row}
use Rattle.op_table.specs.declared.Mode.{Mode}
use Rattle.op_table.specs.declared.Mode.TheVariants.{Acc, Zp, ZpX, ZpY, Abs, AbsX, AbsY, IndX, IndY, IndZp, Ind, IndAbsX, Spare}
use Rattle.cpu_alu.specs.declared.uses.BusUse.{BusUse}
use Rattle.cpu_alu.specs.declared.uses.BusUse.TheVariants as bus
use Rattle.cpu_alu.specs.Addresses.{place}
use Rattle.cpu_alu.specs.Instructions.{bus_use}
use Rattle.cpu_core.specs.declared.progress.Access.{Access}
use Rattle.cpu_core.specs.declared.progress.Access.TheVariants.{Load, Store, Change}
use Rattle.cpu_core.specs.declared.progress.Progress.{Progress}
use Rattle.cpu_core.specs.declared.progress.Phase.{Phase}
use Rattle.cpu_core.specs.declared.progress.Phase.TheVariants as phase
use Rattle.cpu_core.specs.declared.progress.Start.{Start}
use Rattle.cpu_core.specs.Accesses.{row_at, waits}

-- the start of an instruction without an operand in memory
abbrev pub plain : Phase → Start
plain k = record { phase = k; access = Load; always = false; by_y = false }

-- the first cycle after the opcode, by the mode of the operand
abbrev pub first_phase : Mode → Phase
first_phase Zp = phase.ZeroPage
first_phase ZpX = phase.ZeroPageBase
first_phase ZpY = phase.ZeroPageBase
first_phase Abs = phase.AbsoluteLow
first_phase AbsX = phase.IndexedLow
first_phase AbsY = phase.IndexedLow
first_phase IndZp = phase.Pointer
first_phase IndX = phase.PointerBase
first_phase IndY = phase.IndexedPointer
first_phase _ = phase.Operand

abbrev pub is_by_y : Mode → Bool
is_by_y ZpY = true
is_by_y AbsY = true
is_by_y _ = false

abbrev pub in_memory : Access → Bool → Mode → Start
in_memory access always mode = record { phase = first_phase mode; access = access; always = always; by_y = is_by_y mode }

abbrev pub start_change : Bool → Mode → Start
start_change always Acc = plain phase.Accumulator
start_change always mode = in_memory Change always mode

abbrev pub start_implied : Mode → Start
start_implied Spare = plain phase.Opcode
start_implied _ = plain phase.Implied

abbrev pub start_jump : Mode → Start
start_jump Ind = plain phase.IndirectLow
start_jump IndAbsX = plain phase.IndirectIndexedLow
start_jump _ = plain phase.JumpLow

abbrev pub start_by : Part → BusUse → Mode → Start
start_by part bus.Implied mode = start_implied mode
start_by part bus.Reads mode = in_memory Load (waits part bus.Reads) mode
start_by part bus.Stores mode = in_memory Store (waits part bus.Stores) mode
start_by part bus.Shifts mode = start_change (waits part bus.Shifts) mode
start_by part bus.Modifies mode = start_change (waits part bus.Modifies) mode
start_by part bus.Pushes mode = plain phase.Push
start_by part bus.Pulls mode = plain phase.Pull
start_by part bus.Branches mode = plain phase.Branch
start_by part bus.Jumps mode = start_jump mode
start_by part bus.Calls mode = plain phase.CallLow
start_by part bus.Returns mode = plain phase.Return
start_by part bus.Resumes mode = plain phase.Resume
start_by part bus.Breaks mode = plain phase.Break

abbrev pub start_in : Part → Option Row → Start
start_in part (Some row) = start_by part (bus_use row.mnemonic) row.mode
start_in part None = plain phase.Opcode

abbrev pub start_at : Part → ℕ → Start
start_at part op = start_in part (row_at part op)

-- the progress in the first cycle after the opcode
abbrev pub start_leaves : Start → Progress → Progress
start_leaves s m =
    record m { phase = s.phase; start = s; at = place m.work 1; writes = false }
