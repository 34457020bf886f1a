-- A run that continues from its session file.
use Rattle.std.proofs.Common.{◌≡◌, ◌∙◌, refl, ap, ℕ, min, nat_le, List, length, take, None, option_map, Ok, arith}
use Rattle.bus_plug.specs.Plug.{Plug}
use Rattle.tube_trace.specs.FirstWrong.{wrong}
use Rattle.tube_party.specs.Reference.{reference}
use Rattle.tube_party.specs.GoingOn.{entries_below}
use Rattle.host_mach.specs.State.{HostState}
use Rattle.host_mach.specs.Step.{host_transitions}
use Rattle.para_mach.specs.State.{ParaState}
use Rattle.para_mach.specs.Step.{para_transitions}
use Rattle.save_state.specs.Saved.{Session}
use Rattle.save_state.specs.Resume.{SavedRunIsResumed}
use Rattle.cmd_stages.specs.Plan.{Verdict}
use Rattle.cmd_status.specs.declared.status.Ending.{Ending}
use Rattle.cmd_status.specs.declared.status.Ending.TheVariants.{Done}
use Rattle.cmd_outcome.specs.Names.{Names}
use Rattle.cmd_outcome.specs.Verdicts.{machine_verdict}
use Rattle.cmd_machines.specs.Inputs.{Inputs}
use Rattle.cmd_machines.specs.Setup.{Setup}
use Rattle.cmd_machines.specs.Machines.{machines_of}
use Rattle.cmd_machines.specs.Sessions.{begun, begun_if, setup_in, inputs_in}
use Rattle.cmd_ended.specs.Save.{saved_tick, saved_of}
use Rattle.cmd_ended.specs.Kept.{kept_verdict}
use Rattle.cmd_pair.specs.Solo.{solo_after}
use Rattle.cmd_session.specs.Session.{state_of, place_of, session_ended, session_after}
use Rattle.law_sessions.specs.OneRun.{accesses_of, saved_run, MachinesAreMadeAgain, SavedRunIsRead, SavedRunIsOneRun, WordsGoOn}
use Rattle.law_sessions.specs.Words.{WordsBegin}
use Rattle.law_sessions.proofs.Saved.{none_wrong}

-- the result of a session of these machines, with their accesses
pub one_run : (set : Setup) (i : Inputs) (plugs : List Plug) (m : HostState × ParaState) (s : Session) (ticks kept : ℕ) (names : Names) (j : Inputs) →
    state_of j.state ≡ Ok s → machines_of (setup_in s plugs) (inputs_in s) ≡ Ok m → machines_of set i ≡ Ok m → wrong s.entries ≡ None → place_of s ticks m ≡ None →
    begun_if names.save (setup_in s plugs) (inputs_in s) ≡ begun_if names.save set i → s.clock ≡ set.clock →
    session_after plugs ticks kept names j ≡ solo_after set ticks kept names i
unfolding session_after session_ended solo_after
one_run set i plugs m s ticks kept names j read again made right agree begins clock = rw (read, again, made, right, agree, begins, clock)

ends : (set : Setup) (i : Inputs) (m : HostState × ParaState) (ticks kept : ℕ) (names : Names) → machines_of set i ≡ Ok m →
    (v : Verdict Ending) × (solo_after set ticks kept names i ≡ Ok v) × (v.ending ≡ Done)
unfolding solo_after kept_verdict machine_verdict
ends set i m ticks kept names made = (kept_verdict set.clock (begun_if names.save set i) ticks kept names (reference host_transitions para_transitions m.0 m.1 ticks), rw made, refl)

module _ (again : MachinesAreMadeAgain) (reads : SavedRunIsRead) (resumes : SavedRunIsResumed host_transitions para_transitions) where
  pub goes_on : SavedRunIsOneRun
  unfolding saved_of begun
  goes_on set i plugs m n keep there most few ticks kept names j is =
      let s : Session = saved_run set i m n keep in
      let t : ℕ = saved_tick n (nat_le (length (accesses_of m n)) keep) (take keep (accesses_of m n)) in
      let law = resumes m.0 m.1 n keep in
      let made = again set i plugs t (entries_below t (take keep (accesses_of m n))) there.plugged there.roms in
      let read : state_of j.state ≡ Ok s = ap state_of is ∙ (reads set i plugs m n keep there most few).1 in
      let same : session_after plugs ticks kept names j ≡ solo_after set ticks kept names i =
      one_run set i plugs m s ticks kept names j read (made.0 ∙ there.made) there.made (none_wrong law.1.legal) (law.1.agree (min t ticks) (omega arith))
      (ap (λ (b : Session). option_map (λ (name : List ℕ). b) names.save) made.1) refl in
      let end = ends set i m ticks kept names there.made in
      (same, (end.0, same ∙ end.1, end.2))

-- ---- from the words on

module _ (begin : WordsBegin) (one : SavedRunIsOneRun) where
  pub words_on : WordsGoOn
  words_on = record {
    solo = λ ticks out keep given within list plugs m fits made. one _ _ plugs m ticks keep (begin.solo ticks out keep given within list plugs m fits made) within.ticks within.keep;
    run = λ ticks out keep given within list plugs m fits made. one _ _ plugs m ticks keep (begin.run ticks out keep given within list plugs m fits made) within.ticks within.keep;
  }
