-- `resume STATE TICKS OUT` and options: a run continues from a session file.
use Rattle.std.specs.Prelude.{ℕ, min, List, Option, Result, Ok}
use Rattle.bus_plug.specs.Plug.{Plug}
use Rattle.tube_trace.specs.FirstWrong.{wrong}
use Rattle.tube_party.specs.declared.Doing.{Doing}
use Rattle.tube_party.specs.Reference.{reference}
use Rattle.tube_party.specs.GoingOn.{entries_below}
use Rattle.host_mach.specs.State.{HostState}
use Rattle.host_mach.specs.Step.{host_transitions}
use Rattle.para_mach.specs.State.{ParaState}
use Rattle.para_mach.specs.Step.{para_transitions}
use Rattle.save_state.specs.declared.StateError.{StateError}
use Rattle.save_state.specs.declared.StateError.TheVariants as state_errors
use Rattle.save_state.specs.Saved.{Session}
use Rattle.save_state.specs.File.{file}
use Rattle.save_state.specs.Resume.{first_difference}
use Rattle.cmd_stages.specs.Plan.{Verdict, ◌>>=◌, or_refusal}
use Rattle.cmd_stages.specs.declared.stop.Refusal.{Refusal}
use Rattle.cmd_stages.specs.declared.stop.Refusal.TheVariants as refusals
use Rattle.cmd_status.specs.declared.status.Ending.{Ending}
use Rattle.cmd_status.specs.declared.status.Cause.{Cause}
use Rattle.cmd_status.specs.declared.status.Cause.TheVariants.{BadState}
use Rattle.cmd_machines.specs.Inputs.{Inputs}
use Rattle.cmd_machines.specs.Machines.{machines_of}
use Rattle.cmd_machines.specs.Sessions.{setup_in, inputs_in, begun_if}
use Rattle.cmd_outcome.specs.Names.{Names}
use Rattle.cmd_replayed.specs.Replay.{verdict_of_place, unless_wrong}
use Rattle.cmd_ended.specs.Kept.{kept_verdict}

-- the refusal for an error in a session file
abbrev pub state_refusal : StateError → Refusal Cause
state_refusal (state_errors.BadField at) = refusals.Cause (BadState at)
state_refusal state_errors.NoMemory = refusals.NoMemory

-- the session in a file
unfoldable pub state_of : List ℕ → Result Session (Refusal Cause)
state_of bytes = or_refusal state_refusal (file bytes)

-- The first difference between both machines from power-on and the accesses of a session below its
-- moment and the end of the run.
abbrev pub place_of : Session → ℕ → HostState × ParaState → Option (ℕ × Option Doing)
place_of s ticks m = first_difference host_transitions para_transitions (entries_below (min s.ticks ticks) s.entries) (min s.ticks ticks) m.0 m.1

-- The reference run of both machines from power-on, if they and the accesses of the session do not
-- differ.
unfoldable pub session_ended : List Plug → ℕ → ℕ → Names → Session → HostState × ParaState → Verdict Ending
session_ended plugs ticks keep names s m =
    verdict_of_place (kept_verdict s.clock (begun_if names.save (setup_in s plugs) (inputs_in s)) ticks keep names)
    (reference host_transitions para_transitions m.0 m.1 ticks) (place_of s ticks m)

-- A session's machines are made from its parts. The form of the file is refused first, then that of
-- the script. The answers of all its accesses are checked before the machines run.
unfoldable pub session_after : List Plug → ℕ → ℕ → Names → Inputs → Result (Verdict Ending) (Refusal Cause)
session_after plugs ticks keep names i =
    state_of i.state
    >>= λ s. machines_of (setup_in s plugs) (inputs_in s)
    >>= λ m. Ok (unless_wrong (wrong s.entries) (session_ended plugs ticks keep names s m))
