-- The tie of a phase and its latches to what the cycles have shown.
use Rattle.std.specs.Prelude.{◌≡◌, ℕ, List, [], ◌∷◌, ◌++◌, length, drop, Bool, true, false, ◌&&◌, Option, Some, None, is_none}
use Rattle.op_table.specs.declared.names.Part.{Part}
use Rattle.cpu_alu.specs.declared.Cycle.{Cycle}
use Rattle.cpu_core.specs.declared.progress.Progress.{Progress}
use Rattle.cpu_core.specs.State.{State}
use Rattle.cpu_core.specs.Accesses.{row_at}
use Rattle.cpu_core.specs.Sequences.{accesses, result_of, shown_byte, halts, is_start}
use Rattle.cpu_core.specs.CodePhases.{cycles_left, outcome, wants, is_fetch, is_stuck}

abbrev pub first : List Cycle → Option Cycle
first [] = None
first (a ∷ rest) = Some a

-- For all bytes yet to be seen, the phase and the state have the same accesses left and the same
-- registers at the end. The phase is at an opcode, or halted, if and only if the processor is.
pub record Tied (part : Part) (m : Progress) (s : State) : Type 0 where
  pub accesses_left : (f : List (Option ℕ)) → drop (length s.seen) (accesses part s.sequence s.regs (s.seen ++ f)) ≡ cycles_left part m f
  pub end : (f : List (Option ℕ)) → result_of part s.sequence s.regs (s.seen ++ f) ≡ outcome part m f
  pub wanted : wants m ≡ first (cycles_left part m [])
  pub fetch : is_fetch m.phase ≡ is_start s.seen s.sequence
  pub stuck : is_stuck m.phase ≡ halts s.seen part s.sequence

-- the byte of a cycle takes its phase to the next one
pub record GoesOn (part : Part) (m : Progress) (byte : ℕ) (then : Progress) : Type 0 where
  pub accesses_left : (f : List (Option ℕ)) → drop 1 (cycles_left part m (shown_byte (first (cycles_left part m [])) byte ∷ f)) ≡ cycles_left part then f
  pub end : (f : List (Option ℕ)) → outcome part m (shown_byte (first (cycles_left part m [])) byte ∷ f) ≡ outcome part then f
  pub wanted : wants then ≡ first (cycles_left part then [])
  pub fetch : is_fetch then.phase ≡ false
  pub stuck : is_stuck then.phase ≡ (is_fetch m.phase && is_none (row_at part byte))

-- a step: a halted part keeps its phase
abbrev pub StepsWhere : Bool → Part → Progress → ℕ → Progress → Type 0
StepsWhere true part m byte then = then ≡ m
StepsWhere false part m byte then = GoesOn part m byte then

abbrev pub Steps : Part → Progress → ℕ → Progress → Type 0
Steps part m byte then = StepsWhere (is_stuck m.phase) part m byte then
