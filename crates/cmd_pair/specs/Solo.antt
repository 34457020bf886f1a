-- `solo` and `run`, each with `TICKS OUT --os NAME --tube NAME` and options: both machines at the
-- Tube, by the reference run.
use Rattle.std.specs.Prelude.{ℕ, Result, Ok}
use Rattle.tube_party.specs.Reference.{reference}
use Rattle.host_mach.specs.Step.{host_transitions}
use Rattle.para_mach.specs.Step.{para_transitions}
use Rattle.cmd_stages.specs.Plan.{Verdict, ◌>>=◌}
use Rattle.cmd_stages.specs.declared.stop.Refusal.{Refusal}
use Rattle.cmd_status.specs.declared.status.Ending.{Ending}
use Rattle.cmd_status.specs.declared.status.Cause.{Cause}
use Rattle.cmd_machines.specs.Inputs.{Inputs}
use Rattle.cmd_machines.specs.Setup.{Setup}
use Rattle.cmd_machines.specs.Machines.{machines_of}
use Rattle.cmd_machines.specs.Sessions.{begun_if}
use Rattle.cmd_outcome.specs.Names.{Names}
use Rattle.cmd_ended.specs.Kept.{kept_verdict}

-- the reference run of both machines from power-on
unfoldable pub solo_after : Setup → ℕ → ℕ → Names → Inputs → Result (Verdict Ending) (Refusal Cause)
solo_after set ticks keep names i =
    machines_of set i
    >>= λ m. Ok (kept_verdict set.clock (begun_if names.save set i) ticks keep names (reference host_transitions para_transitions m.0 m.1 ticks))
