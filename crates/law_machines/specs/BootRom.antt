-- The times at which the second processor's boot ROM covers the top of its memory. (Acorn, 6502
-- Second Processor: the first access to the Tube switches the ROM out, and a reset switches it in.)
use Rattle.std.specs.Prelude.{ℕ, ◌≡◌, ◌||◌, Bool, false, not, List, [], ◌∷◌, ◌++◌, Option, Some, None}
use Rattle.beeb_bits.specs.declared.clock.Clock.{Clock}
use Rattle.cpu_alu.specs.declared.Cycle.{Cycle}
use Rattle.cpu_alu.specs.declared.Cycle.TheVariants.{Read, Write}
use Rattle.cpu_core.specs.declared.Sequence.TheVariants.{Reset}
use Rattle.cpu65c02.specs.Sequences.{next_cycle}
use Rattle.tube_chip.specs.declared.Answer.{Answer}
use Rattle.para_mach.specs.State.{ParaState, power_on}
use Rattle.para_mach.specs.Step.{is_tube, next_state}
use Rattle.law_machines.specs.Begins.{begun}
use Rattle.law_machines.specs.ParaTicks.{run}

-- The access is a read or a write at an address of the Tube.
abbrev pub reaches_by : Option Cycle → Bool
reaches_by None = false
reaches_by (Some (Read at)) = is_tube at
reaches_by (Some (Write at byte)) = is_tube at

-- One of the steps is such an access.
abbrev pub reaches : List (Option Answer) → ParaState → Bool
reaches [] s = false
reaches (a ∷ answers) s = reaches_by (next_cycle s.cpu) || reaches answers (next_state s a)

-- A reset begins at this state.
abbrev pub IsReset : ParaState → Type 0
IsReset s = begun s.cpu ≡ Some Reset

-- No reset begins after any of the steps.
abbrev pub NoReset : List (Option Answer) → ParaState → Type 0
NoReset [] s = Unit {0}
NoReset (a ∷ answers) s = (IsReset (next_state s a) → ⊥) × NoReset answers (next_state s a)

-- A reset begins after the steps `before` from power-on, and none after any step of `after`.
pub record IsSinceReset (clock : Clock) (rom : List ℕ) (before after : List (Option Answer)) : Type 0 where
  pub reset : IsReset (run before (power_on clock rom))
  pub last : NoReset after (run before (power_on clock rom))

-- The boot ROM is in exactly if no step since the last reset has reached the Tube. Each run from
-- power-on has a last reset, because power-on is one.
pub record RomIsIn : Type 0 where
  pub where_in : (clock : Clock) (rom : List ℕ) (before after : List (Option Answer)) → IsSinceReset clock rom before after →
      (run after (run before (power_on clock rom))).bus.rom_in ≡ not (reaches after (run before (power_on clock rom)))
  pub each : (clock : Clock) (rom : List ℕ) (answers : List (Option Answer)) →
      (before : List (Option Answer)) × (after : List (Option Answer)) × (answers ≡ before ++ after) × IsSinceReset clock rom before after
