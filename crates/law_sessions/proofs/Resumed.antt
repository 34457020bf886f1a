-- Runs resumed from any session file.
use Rattle.std.proofs.Common.{◌≡◌, ◌∙◌, sym, refl, ap, subst, ℕ, List, Option, Some, None, Result, Ok, Err}
use Rattle.bus_plug.specs.Plug.{Plug}
use Rattle.host_mach.specs.State.{HostState}
use Rattle.host_mach.specs.Step.{host_transitions}
use Rattle.para_mach.specs.State.{ParaState}
use Rattle.para_mach.specs.Step.{para_transitions}
use Rattle.tube_trace.specs.FirstWrong.{wrong}
use Rattle.tube_party.specs.declared.Doing.{Doing}
use Rattle.tube_party.specs.Reference.{World, reference}
use Rattle.save_state.specs.declared.StateError.{StateError}
use Rattle.save_state.specs.declared.StateError.TheVariants as state_errors
use Rattle.save_state.specs.Saved.{Session}
use Rattle.save_state.specs.File.{file, file_of, IsSession}
use Rattle.save_state.specs.Laws.{AreBytes, OnlyFileReads}
use Rattle.cmd_stages.specs.Plan.{Verdict, ◌>>=◌, or_refusal}
use Rattle.cmd_stages.specs.declared.stop.Refusal.{Refusal}
use Rattle.cmd_status.specs.declared.status.Cause.{Cause}
use Rattle.cmd_status.specs.declared.status.Ending.{Ending}
use Rattle.cmd_status.specs.declared.status.Ending.TheVariants.{Done}
use Rattle.cmd_machines.specs.Inputs as inputs
use Rattle.cmd_machines.specs.Machines.{machines_of}
use Rattle.cmd_machines.specs.Sessions.{setup_in, inputs_in, begun_if}
use Rattle.cmd_machines.proofs.PartLemmas.{roms_rise, keys_stand}
use Rattle.cmd_outcome.specs.Names.{Names}
use Rattle.cmd_replayed.specs.Replay.{verdict_of_place, unless_wrong}
use Rattle.cmd_ended.specs.Kept.{kept_verdict}
use Rattle.cmd_pair.specs.Solo.{solo_after}
use Rattle.cmd_session.specs.Session.{state_of, state_refusal, place_of, session_ended, session_after}
use Rattle.law_sessions.specs.OneRun.{Begins, saved_run, EndsWith, SessionIsWritten, SavedRunIsOneRun, SessionBegins, ResumedRunIsOneRun}
use Rattle.law_sessions.proofs.Goes.{one_run}

-- ---- a session begins a run

read_is : (r : Result Session StateError) (s : Session) → or_refusal state_refusal r ≡ Ok s → r ≡ Ok s
read_is (Ok t) s is = cc
read_is (Err (state_errors.BadField at)) s is = cc
read_is (Err state_errors.NoMemory) s is = cc

module _ (only : OnlyFileReads) where
  keeps : (bytes : List ℕ) (s : Session) → AreBytes bytes → state_of bytes ≡ Ok s → IsSession s
  unfolding state_of
  keeps bytes s are read = (only bytes s are (read_is (file bytes) s read)).1

  pub session_begins : SessionBegins
  unfolding setup_in
  session_begins bytes s plugs m are read made =
      let session : IsSession s = keeps bytes s are read in
      record { made = made; number = session.plugs; plugged = refl; roms = roms_rise s; keys = keys_stand s session.keys }

-- ---- a run that is resumed, and done

-- no answer was wrong, and no machine differed
went : {S : Type 0} (left : S → Verdict Ending) (x : S) (w : Option (ℕ × ℕ)) (place : Option (ℕ × Option Doing)) → (unless_wrong w (verdict_of_place left x place)).ending ≡ Done →
    (w ≡ None) × (place ≡ None)
went left x None None is = (refl, refl)
went left x None (Some place) is = cc
went left x (Some w) place is = cc

made_of : (r : Result (HostState × ParaState) (Refusal Cause)) (after : HostState × ParaState → Verdict Ending) (v : Verdict Ending) →
    (r >>= λ m. Ok (after m)) ≡ Ok v → (m : HostState × ParaState) × (r ≡ Ok m) × (after m ≡ v)
made_of (Ok m) after v is = (m, refl, cc)
made_of (Err e) after v is = cc

-- the result of a session is that of its machines
from_machines : (s : Session) (plugs : List Plug) (n keep : ℕ) (names : Names) (j : inputs.Inputs) → state_of j.state ≡ Ok s →
    session_after plugs n keep names j ≡ (machines_of (setup_in s plugs) (inputs_in s) >>= λ m. Ok (unless_wrong (wrong s.entries) (session_ended plugs n keep names s m)))
unfolding session_after
from_machines s plugs n keep names j read = rw read

same_verdict : {v w : Verdict Ending} {r : Result (Verdict Ending) (Refusal Cause)} → r ≡ Ok v → r ≡ Ok w → v ≡ w
same_verdict one two = cc

module _ (begins : SessionBegins) (writes : SessionIsWritten) (one : SavedRunIsOneRun) where
  pub saved_again : ResumedRunIsOneRun
  unfolding session_ended setup_in
  saved_again s plugs n keep names name j v are read most few save is done =
      let made = made_of (machines_of (setup_in s plugs) (inputs_in s)) (λ m. unless_wrong (wrong s.entries) (session_ended plugs n keep names s m)) v
      (sym (from_machines s plugs n keep names j read) ∙ is) in
      let m : HostState × ParaState = made.0 in
      let begun : Begins (setup_in s plugs) (inputs_in s) plugs m = begins j.state s plugs m are read made.1 in
      let left : World HostState ParaState → Verdict Ending = kept_verdict s.clock (begun_if names.save (setup_in s plugs) (inputs_in s)) n keep names in
      let end = went left (reference host_transitions para_transitions m.0 m.1 n) (wrong s.entries) (place_of s n m) (ap (λ (w : Verdict Ending). w.ending) made.2 ∙ done) in
      let same : session_after plugs n keep names j ≡ solo_after (setup_in s plugs) n keep names (inputs_in s) =
      one_run (setup_in s plugs) (inputs_in s) plugs m s n keep names j read made.1 made.1 end.0 end.1 refl refl in
      let written = writes (setup_in s plugs) (inputs_in s) m n keep names name made.1 save in
      let v_is : written.0 ≡ v = same_verdict written.1 (sym same ∙ is) in
      record {
        machines = m;
        begins = begun;
        written = subst (λ (w : Verdict Ending). EndsWith name (file_of (saved_run (setup_in s plugs) (inputs_in s) m n keep)) w) v_is written.2;
        goes_on = one (setup_in s plugs) (inputs_in s) plugs m n keep begun most few;
      }
