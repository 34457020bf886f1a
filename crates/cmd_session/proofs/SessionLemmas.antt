-- The verdict of a session.
use Rattle.std.proofs.Common.{◌≡◌, sym, ap, ℕ, Option, List, Ok}
use Rattle.beeb_bits.specs.declared.clock.Clock.{Clock}
use Rattle.bus_plug.specs.Plug.{Plug}
use Rattle.tube_trace.specs.declared.Entry.{Entry}
use Rattle.tube_trace.specs.FirstWrong.{wrong}
use Rattle.tube_party.specs.Reference.{reference}
use Rattle.host_mach.specs.declared.machine.HostMachine.{HostMachine}
use Rattle.host_mach.specs.State.{HostState}
use Rattle.host_mach.specs.Step.{host_transitions}
use Rattle.host_mach.specs.View.{host_seen}
use Rattle.para_mach.specs.State.{ParaState}
use Rattle.para_mach.specs.Step.{para_transitions}
use Rattle.save_state.specs.Saved.{Session}
use Rattle.save_state.specs.File.{IsSession}
use Rattle.cmd_machines.specs.Inputs.{Inputs}
use Rattle.cmd_machines.specs.Setup.{Setup}
use Rattle.cmd_machines.specs.Machines.{machines_of}
use Rattle.cmd_machines.specs.Sessions.{setup_in, inputs_in, begun_if}
use Rattle.cmd_session.specs.Session.{state_of, session_ended, session_after}
use Rattle.cmd_stages.specs.Plan.{Verdict}
use Rattle.cmd_status.specs.declared.status.Ending.{Ending}
use Rattle.cmd_outcome.specs.Names.{Names}
use Rattle.cmd_replayed.specs.Replay.{verdict_of_place, unless_wrong}
use Rattle.cmd_ended.specs.Kept.{kept_verdict}
use Rattle.cmd_session.specs.declared.going.Back.{Back}
use Rattle.cmd_session.specs.declared.going.Back.TheVariants.{On, Wrong, Differs}
use Rattle.cmd_session.specs.Back.{AreAccesses, place_of, Goes}
use Rattle.cmd_session.specs.Comes.{Went, Comes}

module _ {D : Type 0} (plug : D → Plug) (clock : Clock) (begun : Option Session) (n keep : ℕ) (names : Names) (s : HostState) (t : ParaState) (entries : List Entry) (moment : ℕ) where
  abbrev GoesSo : Back (HostMachine D) ParaState → Type 0
  GoesSo there = Goes (host_seen plug) (λ m. m) host_transitions para_transitions s t entries moment n keep there

  pub went_so : (there : Back (HostMachine D) ParaState) → GoesSo there → Went plug n keep there
  went_so (On done) goes = (s, t, goes.2)
  went_so there goes = tt

  pub comes_so : (there : Back (HostMachine D) ParaState) (v : Verdict Ending) → GoesSo there → Comes plug clock begun n keep names there v →
      unless_wrong (wrong entries)
      (verdict_of_place (kept_verdict clock begun n keep names) (reference host_transitions para_transitions s t n) (place_of host_transitions para_transitions entries moment n s t)) ≡ v
  comes_so (On done) v goes comes = rw (goes.0, goes.1) (sym (comes s t goes.2))
  comes_so (Wrong line byte) v goes comes = rw (goes.1, sym goes.2) (sym comes)
  comes_so (Differs line doing) v goes comes = rw (goes.0, goes.1) (sym comes)

-- the accesses of a session
pub accesses_are : (s : Session) (entries : List Entry) → IsSession s → entries ≡ s.entries → AreAccesses s.ticks entries
accesses_are s entries keeps is = rw is (record { each = λ k d h. (keeps.lines k d h).may; rises = keeps.rises; low = keeps.below })

-- the verdict of a session, by its parts
pub session_gives : (plugs : List Plug) (ticks keep : ℕ) (names : Names) (i made : Inputs) (bytes : List ℕ) (s : Session) (set : Setup) (m : HostState × ParaState) (begun : Option Session)
    (entries : List Entry) (v : Verdict Ending) → bytes ≡ i.state → state_of bytes ≡ Ok s → set ≡ setup_in s plugs → made ≡ inputs_in s → machines_of set made ≡ Ok m →
    begun ≡ begun_if names.save set made → entries ≡ s.entries →
    unless_wrong (wrong entries)
    (verdict_of_place (kept_verdict s.clock begun ticks keep names) (reference host_transitions para_transitions m.0 m.1 ticks) (place_of host_transitions para_transitions entries s.ticks ticks m.0 m.1))
    ≡ v → session_after plugs ticks keep names i ≡ Ok v
unfolding session_after session_ended
session_gives plugs ticks keep names i made bytes s set m begun entries v read told setup parts machines saved listed is =
    rw (← read, told, ← setup, ← parts, machines, ← saved, ← listed) (ap Ok is)
