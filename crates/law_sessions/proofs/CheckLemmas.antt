-- `check` of the trace of a run.
use Rattle.std.proofs.Common.{◌≡◌, ◌∙◌, sym, refl, ap, subst, ℕ, ◌≤◌, min, List, length, take, Option, Some}
use Rattle.std.proofs.Common.{All, IfSome, Ok, arith}
use Rattle.std.proofs.lemmas.Bool.Decides.{nat_tests}
use Rattle.std.proofs.lemmas.List.{length-take}
use Rattle.std.proofs.lemmas.List.Elements.{All-take}
use Rattle.beeb_bits.specs.declared.clock.Clock.{Clock}
use Rattle.beeb_files.specs.Files.{Files, bytes_of}
use Rattle.bus_plug.specs.Plug.{Plug}
use Rattle.tube_trace.specs.declared.Entry.{Entry}
use Rattle.tube_trace.specs.Entries.{accesses}
use Rattle.tube_trace.specs.Laws.{IsOfByte, TextReadsBack}
use Rattle.tube_trace.specs.Text.{text_of}
use Rattle.tube_trace.specs.Trace.{trace}
use Rattle.tube_party.specs.Reference.{World as Worlds, reference, IsTraceBelow, ReferenceIsTrace}
use Rattle.host_mach.specs.State.{HostState}
use Rattle.host_mach.specs.Step.{host_transitions}
use Rattle.para_mach.specs.State.{ParaState}
use Rattle.para_mach.specs.Step.{para_transitions}
use Rattle.save_state.specs.Saved.{Session}
use Rattle.cmd_words.specs.declared.keys.InputKind.{InputKind}
use Rattle.cmd_words.specs.Keys.{keys}
use Rattle.cmd_words.specs.Given.{Values, clock_of, save_of, wav_of}
use Rattle.cmd_words.specs.Command.{check, solo, run}
use Rattle.cmd_words.specs.Reads.{files_of}
use Rattle.cmd_stages.specs.Plan as plans
use Rattle.cmd_stages.specs.Plan.{Verdict, ◌>>=◌, or_refusal, or_stop, read_all, verdict, within}
use Rattle.cmd_stages.specs.Promise.{World, put_all}
use Rattle.cmd_status.specs.declared.status.Ending.{Ending}
use Rattle.cmd_status.specs.declared.status.Ending.TheVariants as endings
use Rattle.cmd_status.specs.declared.status.Cause.{Cause}
use Rattle.cmd_machines.specs.Inputs.{inputs_of}
use Rattle.cmd_machines.specs.Setup.{setup_of}
use Rattle.cmd_machines.specs.Machines.{machines_of}
use Rattle.cmd_machines.specs.Sessions.{begun_if}
use Rattle.cmd_outcome.specs.Names.{names_of}
use Rattle.cmd_outcome.specs.Trace.{trace_of}
use Rattle.cmd_outcome.specs.Verdicts.{said_verdict, both_left, machine_verdict}
use Rattle.cmd_ended.specs.Kept.{kept_of, saved_file, kept_verdict}
use Rattle.cmd_ended.proofs.SaveLemmas.{trace_lines, take_trace}
use Rattle.cmd_pair.specs.Solo.{solo_after}
use Rattle.cmd_tools.specs.Check.{ok_text, check_after}
use Rattle.cmd_top.specs.Plans.{plan}
use Rattle.cmd_top.proofs.HeadlineLemmas.{bound_ok, stage_ok}
use Rattle.law_sessions.specs.OneRun.{accesses_of}
use Rattle.law_sessions.specs.TraceOfRun.{trace_name, HasRun, AreMachines, OfRun, AfterEach, IsChecked, RunIsChecked}
use Rattle.law_sessions.proofs.Saved.{none_wrong}
use Rattle.law_sessions.proofs.YieldLemmas.{done_whole, yields}
use Rattle.law_sessions.proofs.TraceFile.{trace_put, text_length}

-- the kept accesses of a run
abbrev pub kept : HostState × ParaState → ℕ → ℕ → List Entry
kept m n keep = take keep (accesses_of m n)

-- A run that ended with `Done`: its machines, and the trace among the files of the outlet.
pub record Ran (plugs : List Plug) (n keep : ℕ) (out : List ℕ) (given : Values) (files written : Files) : Type 0 where
  pub list : plans.Inputs InputKind
  pub machines : HostState × ParaState
  pub made : AreMachines plugs given files list machines
  pub trace : bytes_of written (trace_name out) ≡ Some (text_of (clock_of given) (kept machines n keep))

module _ (plugs : List Plug) (n keep : ℕ) (out : List ℕ) (given : Values) (files written : Files) (old : Option Files) where
  -- the verdict of the run was written
  was_run : (v : Verdict Ending) → (read_all {C = Cause} files (files_of keys given) >>= λ list. or_stop
      (solo_after (setup_of given plugs) n keep (names_of out given) (inputs_of list))) ≡ Ok v →
      Some written ≡ put_all v.files old → (wav_of given ≡ Some (trace_name out) → ⊥) → (save_of given ≡ Some (trace_name out) → ⊥) →
      Ran plugs n keep out given files written
  unfolding solo_after kept_verdict
  was_run v is put wav save =
      let got = bound_ok (read_all files (files_of keys given))
      (λ list. or_stop (solo_after (setup_of given plugs) n keep (names_of out given) (inputs_of list))) v is in
      let made = stage_ok (machines_of (setup_of given plugs) (inputs_of got.0)) _ v got.2 in
      let m : HostState × ParaState = made.0 in
      let w : Worlds HostState ParaState = reference host_transitions para_transitions m.0 m.1 n in
      let begun : Option Session = begun_if (save_of given) (setup_of given plugs) (inputs_of got.0) in
      let there = trace_put (clock_of given) n (length (accesses w.list)) (names_of out given) w.host w.para
      (kept_of (clock_of given) (take keep (accesses w.list)))
      (saved_file begun n keep w.list) old wav save in
      let whole : Some written ≡ put_all (machine_verdict (both_left (clock_of given) n (length (accesses w.list)) (names_of out given) w.host w.para
      (kept_of (clock_of given) (take keep (accesses w.list))) (saved_file begun n keep w.list))).files old =
      put ∙ ap (λ (x : Verdict Ending). put_all x.files old) made.2 in
      record {
        list = got.0;
        machines = m;
        made = record { read = got.1; made = made.1 };
        trace = subst (λ (o : Option Files). IfSome o (λ now. bytes_of now (trace_name out) ≡ Some (text_of (clock_of given) (kept m n keep))))
            (sym whole) there;
      }

-- a run by its call
pub ran_solo : (plugs : List Plug) (n keep : ℕ) (out : List ℕ) (given : Values) (files written : Files) (old new : World) →
    HasRun plugs (solo n out keep given) out given old new files written → Ran plugs n keep out given files written
ran_solo plugs n keep out given files written old new has =
    let got = done_whole plugs (solo n out keep given) files old new has.shelf has.done in
    was_run plugs n keep out given files written old.outlet.files got.0 got.1 (sym has.outlet ∙ got.2.files) has.wav has.save

pub ran_run : (plugs : List Plug) (n keep : ℕ) (out : List ℕ) (given : Values) (files written : Files) (old new : World) →
    HasRun plugs (run n out keep given) out given old new files written → Ran plugs n keep out given files written
ran_run plugs n keep out given files written old new has =
    let got = done_whole plugs (run n out keep given) files old new has.shelf has.done in
    was_run plugs n keep out given files written old.outlet.files got.0 got.1 (sym has.outlet ∙ got.2.files) has.wav has.save

-- what holds of each run with its trace
pub after_each : (Holds : OfRun) →
    ((n keep : ℕ) (out : List ℕ) (given : Values) (plugs : List Plug) (list : plans.Inputs InputKind) (m : HostState × ParaState) (written : Files) →
    n ≤ 1073741824 → keep ≤ 4194304 → machines_of (setup_of given plugs) (inputs_of list) ≡ Ok m →
    bytes_of written (trace_name out) ≡ Some (text_of (clock_of given) (kept m n keep)) → All IsOfByte (accesses_of m n) →
    Holds n keep out given plugs list m written) →
    AfterEach Holds
after_each Holds holds =
    record {
      solo = λ n keep out given inside plugs files written old new has.
          let r = ran_solo plugs n keep out given files written old new has in
          (r.list, r.machines, r.made, holds n keep out given plugs r.list r.machines written inside.ticks inside.keep r.made.made r.trace);
      run = λ n keep out given inside plugs files written old new has.
          let r = ran_run plugs n keep out given files written old new has in
          (r.list, r.machines, r.made, holds n keep out given plugs r.list r.machines written inside.ticks inside.keep r.made.made r.trace);
    }

-- ---- the trace is read

pub capped : (name bytes : List ℕ) → length bytes ≤ 100663296 → within {C = Cause} name 100663296 (Some bytes) ≡ Ok bytes
capped name bytes short = grind (arith, nat_tests)

pub short : (m : HostState × ParaState) (n keep : ℕ) (clock : Clock) → keep ≤ 4194304 → length (text_of clock (kept m n keep)) ≤ 100663296
short m n keep clock few = omega (arith, few, text_length clock (kept m n keep), length-take keep (accesses_of m n))

module _ (legal : ReferenceIsTrace host_transitions para_transitions) (reads : TextReadsBack) where
  pub kept_trace : (m : HostState × ParaState) (n keep : ℕ) → IsTraceBelow n (kept m n keep)
  kept_trace m n keep = take_trace keep n (accesses_of m n) (kept m n keep) refl (legal m.0 m.1 n)

  pub kept_read : (m : HostState × ParaState) (n keep : ℕ) (clock : Clock) → n ≤ 1073741824 → All IsOfByte (accesses_of m n) →
      trace (text_of clock (kept m n keep)) ≡ Ok (clock, kept m n keep)
  kept_read m n keep clock most bytes =
      let below : IsTraceBelow n (kept m n keep) = kept_trace m n keep in
      reads clock (kept m n keep) below.rises (trace_lines n (kept m n keep) most below) (All-take IsOfByte keep (accesses_of m n) bytes)

  checked : (m : HostState × ParaState) (n keep : ℕ) (clock : Clock) → n ≤ 1073741824 → All IsOfByte (accesses_of m n) →
      check_after (text_of clock (kept m n keep)) ≡ Ok (said_verdict endings.Done (ok_text (min keep (length (accesses_of m n)))))
  unfolding check_after trace_of
  checked m n keep clock most bytes =
      rw (kept_read m n keep clock most bytes, none_wrong (kept_trace m n keep), length-take keep (accesses_of m n)) refl

  -- ---- from the file

  check_is : (others : List Plug) (name bytes : List ℕ) (shelf : Files) (v : Verdict Ending) → bytes_of shelf name ≡ Some bytes →
      length bytes ≤ 100663296 → check_after bytes ≡ Ok v →
      verdict (plan others (check name)) shelf ≡ Ok v
  unfolding inputs_of
  check_is others name bytes shelf v has short is = rw (has, capped name bytes short, is) refl

  run_is_checked_by : (n keep : ℕ) (out : List ℕ) (given : Values) (plugs : List Plug) (list : plans.Inputs InputKind) (m : HostState × ParaState)
      (written : Files) →
      n ≤ 1073741824 → keep ≤ 4194304 → bytes_of written (trace_name out) ≡ Some (text_of (clock_of given) (kept m n keep)) →
      All IsOfByte (accesses_of m n) →
      IsChecked n keep out given plugs list m written
  run_is_checked_by n keep out given plugs list m written most few trace bytes others name shelf start last status again =
      yields others (check name) shelf _ start last again.shelf
      (check_is others name _ shelf _ (again.same ∙ trace) (short m n keep (clock_of given) few)
      (checked m n keep (clock_of given) most bytes)) refl status again.ran

  pub run_checked : RunIsChecked
  run_checked = after_each IsChecked (λ n keep out given plugs list m written most few made. run_is_checked_by n keep out given plugs list m written most few)
