-- The verdict after both machines were brought back to the session's moment.
use Rattle.std.specs.Prelude.{ℕ, ◌≡◌, ⊤, Option}
use Rattle.beeb_bits.specs.declared.clock.Clock.{Clock}
use Rattle.bus_plug.specs.Plug.{Plug}
use Rattle.tube_party.specs.Reference.{reference}
use Rattle.host_mach.specs.declared.machine.HostMachine.{HostMachine}
use Rattle.host_mach.specs.State.{HostState}
use Rattle.host_mach.specs.Step.{host_transitions}
use Rattle.para_mach.specs.State.{ParaState}
use Rattle.para_mach.specs.Step.{para_transitions}
use Rattle.save_state.specs.Saved.{Session}
use Rattle.cmd_stages.specs.Plan.{Verdict}
use Rattle.cmd_status.specs.declared.status.Ending.{Ending}
use Rattle.cmd_status.specs.declared.status.Ending.TheVariants as endings
use Rattle.cmd_outcome.specs.Names.{Names}
use Rattle.cmd_outcome.specs.Trace.{wrong_verdict}
use Rattle.cmd_outcome.specs.Verdicts.{said_verdict}
use Rattle.cmd_replayed.specs.Replay.{differs_text}
use Rattle.cmd_ended.specs.Code.{IsRun}
use Rattle.cmd_ended.specs.Kept.{kept_verdict}
use Rattle.cmd_session.specs.declared.going.Back.{Back}
use Rattle.cmd_session.specs.declared.going.Back.TheVariants.{On, Wrong, Differs}

-- if both machines continued, they were run from some states as the reference run does
abbrev pub Went : {D : Type 0} → (D → Plug) → ℕ → ℕ → Back (HostMachine D) ParaState → Type 0
Went plug n keep (On done) = (s : HostState) × (t : ParaState) × IsRun plug s t n keep done
Went plug n keep (Wrong line byte) = ⊤
Went plug n keep (Differs line doing) = ⊤

-- the verdict of the reference run, or that of a wrong access or of a difference
abbrev pub Comes : {D : Type 0} → (D → Plug) → Clock → Option Session → ℕ → ℕ → Names → Back (HostMachine D) ParaState → Verdict Ending → Type 0
Comes plug clock begun n keep names (On done) v =
    (s : HostState) (t : ParaState) → IsRun plug s t n keep done → v ≡ kept_verdict clock begun n keep names (reference host_transitions para_transitions s t n)
Comes plug clock begun n keep names (Wrong line byte) v = v ≡ wrong_verdict line byte
Comes plug clock begun n keep names (Differs line doing) v = v ≡ said_verdict (endings.Differs line doing) (differs_text line doing)
