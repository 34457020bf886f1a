-- The session of a run.
use Rattle.std.proofs.Common.{◌≡◌, refl, ap, ℕ, ◌≤◌, nat_le, List, [], ◌∷◌, length, take, Option, None, IsNone, arith}
use Rattle.std.proofs.lemmas.List.{length-take}
use Rattle.bus_plug.specs.Plug.{Plug}
use Rattle.tube_trace.specs.declared.Entry.{Entry}
use Rattle.tube_trace.specs.FirstWrong.{wrong}
use Rattle.tube_trace.proofs.WrongLemmas.{none_iff}
use Rattle.tube_party.specs.Reference.{IsTraceBelow}
use Rattle.tube_party.specs.GoingOn.{entries_below}
use Rattle.host_mach.specs.State.{HostState}
use Rattle.host_mach.specs.Step.{host_transitions}
use Rattle.para_mach.specs.State.{ParaState}
use Rattle.para_mach.specs.Step.{para_transitions}
use Rattle.save_state.specs.File.{IsSession}
use Rattle.save_state.specs.Laws.{FileReadsBack}
use Rattle.save_state.specs.Resume.{SavedRunIsResumed}
use Rattle.save_state.proofs.Again.{keeps_rules}
use Rattle.cmd_machines.specs.Inputs.{Inputs}
use Rattle.cmd_machines.specs.Setup.{Setup}
use Rattle.cmd_machines.specs.Sessions.{BegunIsSession}
use Rattle.cmd_ended.proofs.SaveLemmas.{trace_lines}
use Rattle.cmd_ended.specs.Save.{saved_tick, saved_of}
use Rattle.cmd_stages.specs.Plan.{or_refusal}
use Rattle.cmd_session.specs.Session.{state_refusal, state_of}
use Rattle.law_sessions.specs.OneRun.{Begins, accesses_of, saved_run, SavedRunIsRead}

-- no answer of a trace is wrong
pub none_wrong : {n : ℕ} {entries : List Entry} → IsTraceBelow n entries → wrong entries ≡ None
none_wrong {entries = entries} trace = none_is ((none_iff entries refl).1 trace.answered)
  where
    none_is : {A : Type 0} {o : Option A} → IsNone o → o ≡ None
    none_is none = grind arith

-- ---- the number of saved accesses

below_less : (t : ℕ) (xs : List Entry) → length (entries_below t xs) ≤ length xs
below_less t [] = omega arith
below_less t (x ∷ xs) = grind (arith, below_less t xs)

-- ---- the rules

module _ (begins : BegunIsSession) (reads : FileReadsBack) (resumes : SavedRunIsResumed host_transitions para_transitions) where
  pub run_keeps : (set : Setup) (i : Inputs) (plugs : List Plug) (m : HostState × ParaState) (n keep : ℕ) → Begins set i plugs m → n ≤ 1073741824 → keep ≤ 4194304 →
      IsSession (saved_run set i m n keep)
  unfolding saved_of
  run_keeps set i plugs m n keep there most few =
      let t : ℕ = saved_tick n (nat_le (length (accesses_of m n)) keep) (take keep (accesses_of m n)) in
      let law = resumes m.0 m.1 n keep in
      let low : t ≤ n = law.0 in
      let end : t ≤ 1073741824 = omega (arith, low, most) in
      let kept : List Entry = entries_below t (take keep (accesses_of m n)) in
      keeps_rules (begins set i m there.made there.number there.keys) end
      (omega (arith, below_less t (take keep (accesses_of m n)), length-take keep (accesses_of m n), few)) (trace_lines t kept end law.1.legal) law.1.legal

  pub run_is_read : SavedRunIsRead
  unfolding state_of
  run_is_read set i plugs m n keep there most few =
      let keeps : IsSession (saved_run set i m n keep) = run_keeps set i plugs m n keep there most few in
      (keeps, ap (or_refusal state_refusal) (reads (saved_run set i m n keep) keeps))
