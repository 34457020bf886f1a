-- The sequence that begins at a state.
use Rattle.std.specs.Prelude.{ℕ, Bool, true, false, List, [], ◌∷◌, Option, Some, None}
use Rattle.cpu_core.specs.State.{State}
use Rattle.cpu_core.specs.declared.Sequence.{Sequence}
use Rattle.cpu_core.specs.declared.Sequence.TheVariants.{Instruction, Reset, Nmi, Irq}

abbrev pub begun_by : List (Option ℕ) → Sequence → Option Sequence
begun_by [] sequence = Some sequence
begun_by (byte ∷ seen) sequence = None

-- A sequence begins if none of its cycles is done.
abbrev pub begun : State → Option Sequence
begun c = begun_by c.seen c.sequence

abbrev pub is_nmi : Option Sequence → Bool
is_nmi None = false
is_nmi (Some Nmi) = true
is_nmi (Some Irq) = false
is_nmi (Some Reset) = false
is_nmi (Some Instruction) = false
