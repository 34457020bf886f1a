-- The verdicts that several commands share.
use Rattle.std.specs.Prelude.{ℕ, List, [], ◌∷◌, ◌++◌, map, Option, Some, None, codes}
use Rattle.beeb_bits.specs.declared.clock.Clock.{Clock}
use Rattle.host_mach.specs.State.{HostState}
use Rattle.para_mach.specs.State.{ParaState}
use Rattle.cmd_stages.specs.Plan.{Verdict}
use Rattle.cmd_status.specs.declared.status.Ending.{Ending}
use Rattle.cmd_status.specs.declared.status.Ending.TheVariants.{Done}
use Rattle.cmd_outcome.specs.Names.{Names}
use Rattle.cmd_outcome.specs.Left.{Kept, Left}
use Rattle.cmd_outcome.specs.Files.{file_of}
use Rattle.cmd_outcome.specs.Outputs.{machine_outputs}

-- a text and no files
abbrev pub said_verdict : Ending → List ℕ → Verdict Ending
said_verdict ending text = record { ending = ending; files = []; said = text }

-- one file with the given bytes
abbrev pub file_verdict : List ℕ → List ℕ → Verdict Ending
file_verdict out bytes = record { ending = Done; files = (out, bytes) ∷ []; said = [] }

-- the file of the counts, if they are written
abbrev pub counts_file : List ℕ → Option (List ℕ) → List (List ℕ × List ℕ)
counts_file out None = []
counts_file out (Some counts) = (out ++ codes ".counts", counts) ∷ []

-- the file of a listing, then that of the counts, if they are written, and then a text
abbrev pub listing_verdict : List ℕ → List ℕ → Option (List ℕ) → List ℕ → Verdict Ending
listing_verdict out bytes counts said = record { ending = Done; files = (out ++ codes ".list", bytes) ∷ counts_file out counts; said = said }

-- the files of the machines' final states
unfoldable pub machine_verdict : Left → Verdict Ending
machine_verdict l = record { ending = Done; files = map (file_of l) (machine_outputs l); said = [] }

-- the final state of the host after a replay
abbrev pub host_left : Clock → ℕ → ℕ → Names → HostState → Left
host_left clock ticks tube names s =
    record { names = names; clock = clock; ticks = ticks; tube = tube; host = Some s; para = None; kept = None; saved = None; counts = None; bytes = [] }

-- the final state of the second processor after a replay
abbrev pub para_left : Clock → ℕ → ℕ → Names → ParaState → Left
para_left clock ticks tube names s =
    record { names = names; clock = clock; ticks = ticks; tube = tube; host = None; para = Some s; kept = None; saved = None; counts = None; bytes = [] }

-- the final state of both machines after a run, with its session file, if it is saved
abbrev pub both_left : Clock → ℕ → ℕ → Names → HostState → ParaState → Kept → Option (List ℕ) → Left
both_left clock ticks tube names s p kept saved =
    record { names = names; clock = clock; ticks = ticks; tube = tube; host = Some s; para = Some p; kept = Some kept; saved = saved; counts = None; bytes = [] }
