-- The accesses left in each phase of a sequence, and the registers at its end.
use Rattle.std.specs.Prelude.{ℕ, ◌+◌, ◌/◌, ◌%◌, List, [], ◌∷◌, ◌++◌, Bool, true, false, cond, eqb, ◌||◌, Option, Some, None, nat_lt, drop, bit_or, bit_and}
use denote.Enum.Declared.{tag_of}
use Rattle.op_table.specs.declared.Part.{Part}
use Rattle.op_table.specs.declared.Row.{Row}
use Rattle.op_table.specs.declared.Mode.TheVariants.{Acc, Abs, Ind, IndAbsX}
use Rattle.cpu_alu.specs.declared.Regs.{Regs}
use Rattle.cpu_alu.specs.declared.Cycle.{Cycle}
use Rattle.cpu_alu.specs.declared.Cycle.TheVariants.{Read, Write}
use Rattle.cpu_alu.specs.declared.flags.TheConstants.{PUSHED_BY_INTERRUPT, PULLED}
use Rattle.cpu_alu.specs.declared.uses.BusUse.TheVariants.{Pushes, Pulls, Calls, Returns, Resumes, Breaks}
use Rattle.cpu_alu.specs.Addresses.{word, wrap, place, stack, with_stack_moved, with_pc_past, crosses_page, target}
use Rattle.cpu_alu.specs.Instructions.{stored_value, modified_value, takes_branch, read_result, modify_result, implied_result, pull_result}
use Rattle.cpu_core.specs.declared.Sequence.TheVariants.{Instruction}
use Rattle.cpu_core.specs.contracts.progress.Phase.{the_type}
use Rattle.cpu_core.specs.declared.progress.Access.{Access}
use Rattle.cpu_core.specs.declared.progress.Access.TheVariants.{Load, Store, Change}
use Rattle.cpu_core.specs.declared.progress.Progress.{Progress}
use Rattle.cpu_core.specs.declared.progress.Phase.{Phase}
use Rattle.cpu_core.specs.declared.progress.Phase.TheVariants.{Opcode, Implied, Accumulator, BranchCrossed, ZeroPage, ZeroPageBase, AbsoluteLow}
use Rattle.cpu_core.specs.declared.progress.Phase.TheVariants.{AddressHigh, IndexedLow, IndexedHigh, IndexAdded, Pointer, PointerLow, PointerBase}
use Rattle.cpu_core.specs.declared.progress.Phase.TheVariants.{PointerIndex, PointerIndexedLow, IndexedPointer, IndexedPointerLow}
use Rattle.cpu_core.specs.declared.progress.Phase.TheVariants.{IndexedPointerHigh, Operand, ModifyAgain, ModifyWrite, Decimal, Branch, BranchTaken}
use Rattle.cpu_core.specs.declared.progress.Phase.TheVariants.{JumpLow, JumpHigh, IndirectLow, IndirectHigh, IndirectIndexedLow, IndirectIndexedHigh}
use Rattle.cpu_core.specs.declared.progress.Phase.TheVariants.{IndirectAgain, IndirectTargetLow, Break, InterruptPushHigh, InterruptPushLow}
use Rattle.cpu_core.specs.declared.progress.Phase.TheVariants.{InterruptPushFlags, VectorLow, VectorHigh, InterruptFirst, InterruptSecond}
use Rattle.cpu_core.specs.declared.progress.Phase.TheVariants.{ResetFirst, ResetSecond, ResetThird, ResetFourth, ResetFifth, Return, ReturnStack}
use Rattle.cpu_core.specs.declared.progress.Phase.TheVariants.{ReturnLow, ReturnHigh, ReturnTarget, SpareSecond, SpareLast, Push, PushByte, Pull}
use Rattle.cpu_core.specs.declared.progress.Phase.TheVariants.{PullStack, PullByte, CallLow, CallStack, CallPushHigh, CallPushLow, CallHigh, Resume}
use Rattle.cpu_core.specs.declared.progress.Phase.TheVariants.{ResumeStack, ResumeFlags, ResumeLow, ResumeHigh, Halted, Over}
use Rattle.cpu_core.specs.Accesses.{byte, by_part, idle, with_low, second, cycle_between, lasts_longer, carry_cycles, last_place, branch_form, through, jump_form, again, form}
use Rattle.cpu_core.specs.Results.{to_vector}
use Rattle.cpu_core.specs.Sequences.{reset, accesses, result_of}

-- the cycles from the one at the operand on; a is the operand's address and m its byte
abbrev pub at_operand : Part → Access → Row → ℕ → Regs → ℕ → List Cycle
at_operand part Load row a r m = Read a ∷ cond (lasts_longer part row.mnemonic r) (Read (last_place row.mode r) ∷ []) []
at_operand part Store row a r m = Write a (stored_value row.mnemonic r) ∷ []
at_operand part Change row a r m = Read a ∷ cycle_between part a m ∷ Write a (modified_value row.mnemonic r m) ∷ []

-- the registers after the cycles from the one at the operand on
abbrev pub after_operand : Part → Access → Row → Regs → ℕ → Regs
after_operand part Load row r m = read_result part row.mnemonic row.mode (with_pc_past r row.bytes) m
after_operand part Store row r m = with_pc_past r row.bytes
after_operand part Change row r m = modify_result row.mnemonic row.mode (with_pc_past r row.bytes) m

-- the cycles of an indexed form from the one for a carry on
abbrev pub indexed_cycles : Part → Access → Row → ℕ → Bool → ℕ → ℕ → ℕ → Regs → ℕ → List Cycle
indexed_cycles part access row x always low high q r m =
    carry_cycles part always low high x q ++ at_operand part access row (wrap (word low high + x)) r m

-- late if the form takes the cycle for a carry, early if not
abbrev pub pick : Bool → ℕ → ℕ → ℕ → ℕ → ℕ
pick always low x late early = cond (always || crosses_page low x) late early

-- the pushes and the vector reads of an interrupt or BRK, with the address pc, the flags p and the
-- vector's address v
abbrev pub pushes : ℕ → ℕ → ℕ → Regs → List Cycle
pushes pc p v r =
    Write (stack r 0) (pc / 256) ∷ Write (stack r 255) (pc % 256) ∷ Write (stack r 254) p ∷ Read v ∷ Read (wrap (v + 1)) ∷ []

-- the pushes and the vector reads with the latched values
abbrev pub pushing : Progress → List Cycle
pushing m = Write (stack m.work 0) m.value ∷ Write (stack m.work 255) m.index ∷ Write (stack m.work 254) m.low ∷ Read m.to ∷ Read (wrap (m.to + 1)) ∷ []

abbrev pub goes_to : Regs → ℕ → Regs
goes_to r to = record r { pc = to }

abbrev pub after_call : Regs → ℕ → Regs
after_call r to = record (with_stack_moved r 254) { pc = to }

abbrev pub after_return : Regs → ℕ → Regs
after_return r to = record (with_stack_moved r 2) { pc = wrap (to + 1) }

abbrev pub after_resume : Regs → ℕ → ℕ → Regs
after_resume r p to = record (with_stack_moved r 3) { pc = to; p = p }

-- the index to add
abbrev pub index_of : Progress → ℕ
index_of m = cond m.start.by_y m.work.y m.work.x

-- the accesses left in a phase; f is what the phase and those after it will show
abbrev pub cycles_left_in : Part → Phase → Progress → List (Option ℕ) → List Cycle
cycles_left_in part Opcode m f = accesses part Instruction m.work f
cycles_left_in part Implied m f = Read (place m.work 1) ∷ []
cycles_left_in part Accumulator m f = Read (place m.work 1) ∷ []
cycles_left_in part BranchCrossed m f = Read m.at ∷ []
cycles_left_in part ZeroPage m f = Read (place m.work 1) ∷ at_operand part m.start.access m.row (byte f 0) m.work (byte f 1)
cycles_left_in part ZeroPageBase m f =
    Read (place m.work 1) ∷ Read (idle part (byte f 0) (place m.work 1))
    ∷ at_operand part m.start.access m.row ((byte f 0 + (index_of m)) % 256) m.work (byte f 2)
cycles_left_in part AbsoluteLow m f =
    Read (place m.work 1) ∷ Read (place m.work 2)
    ∷ at_operand part m.start.access m.row (word (byte f 0) (byte f 1)) m.work (byte f 2)
cycles_left_in part AddressHigh m f = Read m.at ∷ at_operand part m.start.access m.row (word m.low (byte f 0)) m.work (byte f 1)
cycles_left_in part IndexedLow m f =
    Read (place m.work 1) ∷ Read (place m.work 2)
    ∷ indexed_cycles part m.start.access m.row (index_of m) m.start.always (byte f 0) (byte f 1) (place m.work 2) m.work (pick m.start.always (byte f 0) (index_of m) (byte f 3) (byte f 2))
cycles_left_in part IndexedHigh m f =
    Read (place m.work 2)
    ∷ indexed_cycles part m.start.access m.row (index_of m) m.start.always m.low (byte f 0) (place m.work 2) m.work (pick m.start.always m.low (index_of m) (byte f 2) (byte f 1))
cycles_left_in part IndexAdded m f = Read m.at ∷ at_operand part m.start.access m.row m.to m.work (byte f 1)
cycles_left_in part Pointer m f =
    Read (place m.work 1) ∷ Read (byte f 0) ∷ Read ((byte f 0 + 1) % 256)
    ∷ at_operand part m.start.access m.row (word (byte f 1) (byte f 2)) m.work (byte f 3)
cycles_left_in part PointerLow m f =
    Read m.low ∷ Read ((m.low + 1) % 256) ∷ at_operand part m.start.access m.row (word (byte f 0) (byte f 1)) m.work (byte f 2)
cycles_left_in part PointerBase m f =
    Read (place m.work 1) ∷ Read (idle part (byte f 0) (place m.work 1)) ∷ Read ((byte f 0 + m.work.x) % 256)
    ∷ Read ((byte f 0 + m.work.x + 1) % 256)
    ∷ at_operand part m.start.access m.row (word (byte f 2) (byte f 3)) m.work (byte f 4)
cycles_left_in part PointerIndex m f =
    Read m.at ∷ Read ((m.low + m.work.x) % 256) ∷ Read ((m.low + m.work.x + 1) % 256)
    ∷ at_operand part m.start.access m.row (word (byte f 1) (byte f 2)) m.work (byte f 3)
cycles_left_in part PointerIndexedLow m f =
    Read ((m.low + m.work.x) % 256) ∷ Read ((m.low + m.work.x + 1) % 256)
    ∷ at_operand part m.start.access m.row (word (byte f 0) (byte f 1)) m.work (byte f 2)
cycles_left_in part IndexedPointer m f =
    Read (place m.work 1) ∷ Read (byte f 0) ∷ Read ((byte f 0 + 1) % 256)
    ∷ indexed_cycles part m.start.access m.row m.work.y m.start.always (byte f 1) (byte f 2) (place m.work 1) m.work (pick m.start.always (byte f 1) m.work.y (byte f 4) (byte f 3))
cycles_left_in part IndexedPointerLow m f =
    Read m.low ∷ Read ((m.low + 1) % 256)
    ∷ indexed_cycles part m.start.access m.row m.work.y m.start.always (byte f 0) (byte f 1) (place m.work 1) m.work (pick m.start.always (byte f 0) m.work.y (byte f 3) (byte f 2))
cycles_left_in part IndexedPointerHigh m f =
    Read m.at
    ∷ indexed_cycles part m.start.access m.row m.work.y m.start.always m.low (byte f 0) (place m.work 1) m.work (pick m.start.always m.low m.work.y (byte f 2) (byte f 1))
cycles_left_in part Operand m f = at_operand part m.start.access m.row m.at m.work (byte f 0)
cycles_left_in part ModifyAgain m f = cycle_between part m.at m.low ∷ Write m.at (modified_value m.row.mnemonic m.work m.low) ∷ []
cycles_left_in part ModifyWrite m f = Write m.at m.value ∷ []
cycles_left_in part Decimal m f = Read m.at ∷ []
cycles_left_in part Branch m f = branch_form part (takes_branch m.row.mnemonic m.work) m.work (None ∷ f)
cycles_left_in part BranchTaken m f =
    Read m.at
    ∷ cond (eqb (m.to / 256) (place m.work 2 / 256)) [] (Read (idle part (with_low (place m.work 2) m.to) (place m.work 1)) ∷ [])
cycles_left_in part JumpLow m f = jump_form part Abs m.work f
cycles_left_in part JumpHigh m f = Read m.at ∷ []
cycles_left_in part IndirectLow m f = jump_form part Ind m.work (None ∷ f)
cycles_left_in part IndirectHigh m f = Read (place m.work 2) ∷ through part (word m.low (byte f 0)) (place m.work 2)
cycles_left_in part IndirectIndexedLow m f = jump_form part IndAbsX m.work (None ∷ f)
cycles_left_in part IndirectIndexedHigh m f =
    Read (place m.work 2) ∷ through part (wrap (word m.low (byte f 0) + m.work.x)) (place m.work 2)
cycles_left_in part IndirectAgain m f = Read m.at ∷ Read m.to ∷ Read (second part m.to) ∷ []
cycles_left_in part IndirectTargetLow m f = Read m.to ∷ Read (second part m.to) ∷ []
cycles_left_in part Break m f = form part Breaks m.row m.work f
cycles_left_in part InterruptPushHigh m f = pushing m
cycles_left_in part InterruptPushLow m f = drop 1 (pushing m)
cycles_left_in part InterruptPushFlags m f = drop 2 (pushing m)
cycles_left_in part VectorLow m f = drop 3 (pushing m)
cycles_left_in part VectorHigh m f = Read m.at ∷ []
cycles_left_in part InterruptFirst m f =
    Read m.work.pc ∷ Read m.work.pc ∷ pushes m.work.pc (bit_or m.work.p PUSHED_BY_INTERRUPT) m.to m.work
cycles_left_in part InterruptSecond m f = Read m.work.pc ∷ pushes m.work.pc (bit_or m.work.p PUSHED_BY_INTERRUPT) m.to m.work
cycles_left_in part ResetFirst m f = reset m.work
cycles_left_in part ResetSecond m f = drop 1 (reset m.work)
cycles_left_in part ResetThird m f = drop 2 (reset m.work)
cycles_left_in part ResetFourth m f = drop 3 (reset m.work)
cycles_left_in part ResetFifth m f = drop 4 (reset m.work)
cycles_left_in part Return m f = form part Returns m.row m.work (None ∷ f)
cycles_left_in part ReturnStack m f = drop 1 (form part Returns m.row m.work (None ∷ None ∷ f))
cycles_left_in part ReturnLow m f = drop 2 (form part Returns m.row m.work (None ∷ None ∷ None ∷ f))
cycles_left_in part ReturnHigh m f = Read (stack m.work 2) ∷ Read (word m.low (byte f 0)) ∷ []
cycles_left_in part ReturnTarget m f = Read m.at ∷ []
cycles_left_in part SpareSecond m f = Read (place m.work 1) ∷ Read (place m.work 2) ∷ again m.low (place m.work 2)
cycles_left_in part SpareLast m f = Read m.at ∷ again m.low m.at
cycles_left_in part Push m f = form part Pushes m.row m.work f
cycles_left_in part PushByte m f = Write m.at m.value ∷ []
cycles_left_in part Pull m f = form part Pulls m.row m.work f
cycles_left_in part PullStack m f = drop 1 (form part Pulls m.row m.work f)
cycles_left_in part PullByte m f = drop 2 (form part Pulls m.row m.work f)
cycles_left_in part CallLow m f = form part Calls m.row m.work f
cycles_left_in part CallStack m f = drop 1 (form part Calls m.row m.work f)
cycles_left_in part CallPushHigh m f = drop 2 (form part Calls m.row m.work f)
cycles_left_in part CallPushLow m f = drop 3 (form part Calls m.row m.work f)
cycles_left_in part CallHigh m f = drop 4 (form part Calls m.row m.work f)
cycles_left_in part Resume m f = form part Resumes m.row m.work f
cycles_left_in part ResumeStack m f = drop 1 (form part Resumes m.row m.work f)
cycles_left_in part ResumeFlags m f = drop 2 (form part Resumes m.row m.work f)
cycles_left_in part ResumeLow m f = drop 3 (form part Resumes m.row m.work f)
cycles_left_in part ResumeHigh m f = drop 4 (form part Resumes m.row m.work f)
cycles_left_in part Halted m f = Read m.at ∷ []
cycles_left_in part Over m f = []

-- the registers at the end; f is what the phase and those after it will show
abbrev pub outcome_in : Part → Phase → Progress → List (Option ℕ) → Regs
outcome_in part Opcode m f = result_of part Instruction m.work f
outcome_in part Implied m f = implied_result m.row.mnemonic (with_pc_past m.work m.row.bytes)
outcome_in part Accumulator m f = modify_result m.row.mnemonic Acc (with_pc_past m.work m.row.bytes) m.work.a
outcome_in part BranchCrossed m f = goes_to m.work m.to
outcome_in part ZeroPage m f = after_operand part m.start.access m.row m.work (byte f 1)
outcome_in part ZeroPageBase m f = after_operand part m.start.access m.row m.work (byte f 2)
outcome_in part AbsoluteLow m f = after_operand part m.start.access m.row m.work (byte f 2)
outcome_in part AddressHigh m f = after_operand part m.start.access m.row m.work (byte f 1)
outcome_in part IndexedLow m f = after_operand part m.start.access m.row m.work (pick m.start.always (byte f 0) (index_of m) (byte f 3) (byte f 2))
outcome_in part IndexedHigh m f = after_operand part m.start.access m.row m.work (pick m.start.always m.low (index_of m) (byte f 2) (byte f 1))
outcome_in part IndexAdded m f = after_operand part m.start.access m.row m.work (byte f 1)
outcome_in part Pointer m f = after_operand part m.start.access m.row m.work (byte f 3)
outcome_in part PointerLow m f = after_operand part m.start.access m.row m.work (byte f 2)
outcome_in part PointerBase m f = after_operand part m.start.access m.row m.work (byte f 4)
outcome_in part PointerIndex m f = after_operand part m.start.access m.row m.work (byte f 3)
outcome_in part PointerIndexedLow m f = after_operand part m.start.access m.row m.work (byte f 2)
outcome_in part IndexedPointer m f = after_operand part m.start.access m.row m.work (pick m.start.always (byte f 1) m.work.y (byte f 4) (byte f 3))
outcome_in part IndexedPointerLow m f =
    after_operand part m.start.access m.row m.work (pick m.start.always (byte f 0) m.work.y (byte f 3) (byte f 2))
outcome_in part IndexedPointerHigh m f = after_operand part m.start.access m.row m.work (pick m.start.always m.low m.work.y (byte f 2) (byte f 1))
outcome_in part Operand m f = after_operand part m.start.access m.row m.work (byte f 0)
outcome_in part ModifyAgain m f = after_operand part Change m.row m.work m.low
outcome_in part ModifyWrite m f = after_operand part Change m.row m.work m.low
outcome_in part Decimal m f = after_operand part Load m.row m.work m.low
outcome_in part Branch m f =
    goes_to m.work (cond (takes_branch m.row.mnemonic m.work) (target m.work (byte f 0)) (place m.work 2))
outcome_in part BranchTaken m f = goes_to m.work m.to
outcome_in part JumpLow m f = goes_to m.work (word (byte f 0) (byte f 1))
outcome_in part JumpHigh m f = goes_to m.work (word m.low (byte f 0))
outcome_in part IndirectLow m f =
    goes_to m.work (by_part part (word (byte f 2) (byte f 3)) (word (byte f 3) (byte f 4)))
outcome_in part IndirectHigh m f =
    goes_to m.work (by_part part (word (byte f 1) (byte f 2)) (word (byte f 2) (byte f 3)))
outcome_in part IndirectIndexedLow m f =
    goes_to m.work (by_part part (word (byte f 2) (byte f 3)) (word (byte f 3) (byte f 4)))
outcome_in part IndirectIndexedHigh m f =
    goes_to m.work (by_part part (word (byte f 1) (byte f 2)) (word (byte f 2) (byte f 3)))
outcome_in part IndirectAgain m f = goes_to m.work (word (byte f 1) (byte f 2))
outcome_in part IndirectTargetLow m f = goes_to m.work (word (byte f 0) (byte f 1))
outcome_in part Break m f = to_vector part m.work (byte f 4) (byte f 5)
outcome_in part InterruptPushHigh m f = to_vector part m.work (byte f 3) (byte f 4)
outcome_in part InterruptPushLow m f = to_vector part m.work (byte f 2) (byte f 3)
outcome_in part InterruptPushFlags m f = to_vector part m.work (byte f 1) (byte f 2)
outcome_in part VectorLow m f = to_vector part m.work (byte f 0) (byte f 1)
outcome_in part VectorHigh m f = to_vector part m.work m.low (byte f 0)
outcome_in part InterruptFirst m f = to_vector part m.work (byte f 5) (byte f 6)
outcome_in part InterruptSecond m f = to_vector part m.work (byte f 4) (byte f 5)
outcome_in part ResetFirst m f = to_vector part m.work (byte f 5) (byte f 6)
outcome_in part ResetSecond m f = to_vector part m.work (byte f 4) (byte f 5)
outcome_in part ResetThird m f = to_vector part m.work (byte f 3) (byte f 4)
outcome_in part ResetFourth m f = to_vector part m.work (byte f 2) (byte f 3)
outcome_in part ResetFifth m f = to_vector part m.work (byte f 1) (byte f 2)
outcome_in part Return m f = after_return m.work (word (byte f 2) (byte f 3))
outcome_in part ReturnStack m f = after_return m.work (word (byte f 1) (byte f 2))
outcome_in part ReturnLow m f = after_return m.work (word (byte f 0) (byte f 1))
outcome_in part ReturnHigh m f = after_return m.work (word m.low (byte f 0))
outcome_in part ReturnTarget m f = after_return m.work m.at
outcome_in part SpareSecond m f = implied_result m.row.mnemonic (with_pc_past m.work m.row.bytes)
outcome_in part SpareLast m f = implied_result m.row.mnemonic (with_pc_past m.work m.row.bytes)
outcome_in part Push m f = with_stack_moved (with_pc_past m.work m.row.bytes) 255
outcome_in part PushByte m f = with_stack_moved (with_pc_past m.work m.row.bytes) 255
outcome_in part Pull m f = pull_result m.row.mnemonic (with_stack_moved (with_pc_past m.work m.row.bytes) 1) (byte f 2)
outcome_in part PullStack m f = pull_result m.row.mnemonic (with_stack_moved (with_pc_past m.work m.row.bytes) 1) (byte f 1)
outcome_in part PullByte m f = pull_result m.row.mnemonic (with_stack_moved (with_pc_past m.work m.row.bytes) 1) (byte f 0)
outcome_in part CallLow m f = after_call m.work (word (byte f 0) (byte f 4))
outcome_in part CallStack m f = after_call m.work (word m.low (byte f 3))
outcome_in part CallPushHigh m f = after_call m.work (word m.low (byte f 2))
outcome_in part CallPushLow m f = after_call m.work (word m.low (byte f 1))
outcome_in part CallHigh m f = after_call m.work (word m.low (byte f 0))
outcome_in part Resume m f = after_resume m.work (bit_and (byte f 2) PULLED) (word (byte f 3) (byte f 4))
outcome_in part ResumeStack m f = after_resume m.work (bit_and (byte f 1) PULLED) (word (byte f 2) (byte f 3))
outcome_in part ResumeFlags m f = after_resume m.work (bit_and (byte f 0) PULLED) (word (byte f 1) (byte f 2))
outcome_in part ResumeLow m f = after_resume m.work m.index (word (byte f 0) (byte f 1))
outcome_in part ResumeHigh m f = after_resume m.work m.index (word m.low (byte f 0))
outcome_in part Halted m f = m.work
outcome_in part Over m f = m.work

abbrev pub cycles_left : Part → Progress → List (Option ℕ) → List Cycle
cycles_left part m f = cycles_left_in part m.phase m f

abbrev pub outcome : Part → Progress → List (Option ℕ) → Regs
outcome part m f = outcome_in part m.phase m f

-- the access of the cycle in progress
abbrev pub wants_in : Phase → Progress → Option Cycle
wants_in Over m = None
wants_in _ m = Some (cond m.writes (Write m.at m.value) (Read m.at))

abbrev pub wants : Progress → Option Cycle
wants m = wants_in m.phase m

abbrev pub is_store : Access → Bool
is_store Store = true
is_store _ = false

abbrev pub value_by : Access → Progress → ℕ
value_by Store m = stored_value m.row.mnemonic m.work
value_by _ m = m.value

-- the progress in a cycle that reads, and in one that writes
abbrev pub progress_reading : Progress → Phase → ℕ → Progress
progress_reading m phase at = record m { phase = phase; at = at; writes = false }

abbrev pub progress_writing : Progress → Phase → ℕ → ℕ → Progress
progress_writing m phase at value = record m { phase = phase; at = at; writes = true; value = value }

-- the progress at the end, with the registers r
abbrev pub progress_at_end : Progress → Regs → Progress
progress_at_end m r = record m { phase = Over; work = r }

-- the progress in the cycle at the operand, whose address is a
abbrev pub progress_at_operand : Progress → ℕ → Progress
progress_at_operand m a = record m { phase = Operand; at = a; writes = is_store m.start.access; value = value_by m.start.access m }

-- the progress in the cycle that pushes the high byte of pc, before the low byte and the flags with
-- the bits of set
abbrev pub progress_pushing : Progress → ℕ → ℕ → Progress
progress_pushing m pc set =
    progress_writing (record m { index = pc % 256; low = bit_or m.work.p set }) InterruptPushHigh (stack m.work 0) (pc / 256)

-- true in the first cycle of an instruction
abbrev pub is_fetch : Phase → Bool
is_fetch Opcode = true
is_fetch _ = false

abbrev pub is_stuck : Phase → Bool
is_stuck Halted = true
is_stuck _ = false

-- true if a phase is in neither of the two most frequent groups
abbrev pub is_later : Phase → Bool
is_later k = nat_lt (tag_of the_type IndexAdded) (tag_of the_type k)

abbrev pub is_rare : Phase → Bool
is_rare k = nat_lt (tag_of the_type ZeroPageBase) (tag_of the_type k)
