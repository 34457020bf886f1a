-- The headline follows from the promise of `run`.
use Rattle.std.proofs.Common.{◌≡◌, ◌∙◌, refl, ap, ℕ, true, List, [], Option, Some, None, Result, Ok, Err, IfSome, append-nil}
use Rattle.beeb_files.specs.Files.{Files, say}
use Rattle.cmd_words.specs.Command.{Command, run}
use Rattle.cmd_words.specs.Given.{Values}
use Rattle.cmd_words.specs.Keys.{keys}
use Rattle.cmd_words.specs.Reads.{files_of}
use Rattle.cmd_stages.specs.declared.stop.Stop.{Stop}
use Rattle.cmd_stages.specs.declared.stop.Refusal.{Refusal}
use Rattle.cmd_stages.specs.Plan.{Verdict, read_all, verdict, ComesTo, or_stop, ◌>>=◌}
use Rattle.cmd_stages.specs.Promise.{World, HasPaired, CarriesOut, put_all}
use Rattle.bus_plug.specs.Plug.{Plug}
use Rattle.cmd_status.specs.declared.status.Ending.{Ending}
use Rattle.cmd_status.specs.declared.status.Ending.TheVariants as endings
use Rattle.cmd_status.specs.declared.status.Cause.{Cause}
use Rattle.cmd_status.specs.declared.status.Status.{Status}
use Rattle.cmd_status.specs.declared.status.Status.TheVariants.{Done}
use Rattle.cmd_status.specs.Status.{end_of}
use Rattle.cmd_top.specs.Plans.{plan}
use Rattle.cmd_machines.specs.Setup.{setup_of}
use Rattle.cmd_top.specs.Commands.{EndsWith}
use Rattle.cmd_top.specs.Headline.{IsReferenceRun, Headline}
use Rattle.cmd_machines.specs.Inputs.{inputs_of}
use Rattle.cmd_machines.specs.Machines.{machines_of}
use Rattle.cmd_outcome.specs.Names.{names_of}
use Rattle.cmd_ended.specs.Kept.{kept_verdict}
use Rattle.cmd_pair.specs.Solo.{solo_after}
use Rattle.cmd_outcome.specs.Verdicts.{machine_verdict}

pub say_nothing : (said : Option (List ℕ)) → say [] said ≡ said
say_nothing None = refl
say_nothing (Some bytes) = ap Some (append-nil bytes)

-- a next step gave a result, so the step before it gave one too
pub bound_ok : {A B C : Type 0} (r : Result A C) (after : A → Result B C) (v : B) → (r >>= after) ≡ Ok v → (x : A) × (r ≡ Ok x) × (after x ≡ Ok v)
bound_ok (Ok x) after v same = (x, refl, same)
bound_ok (Err stop) after v same = cc

pub stage_ok : {A : Type 0} (r : Result A (Refusal Cause)) (f : A → Verdict Ending) (v : Verdict Ending) → or_stop (r >>= λ x. Ok (f x)) ≡ Ok v →
    (x : A) × (r ≡ Ok x) × (v ≡ f x)
stage_ok (Ok x) f v same = (x, refl, cc)
stage_ok (Err refusal) f v same = cc

module _ (plugs : List Plug) (ticks keep : ℕ) (out : List ℕ) (given : Values) (old new : World) where
  is_reference : (files : Files) (v : Verdict Ending) → verdict (plan plugs (run ticks out keep given)) files ≡ Ok v →
      new.outlet.files ≡ put_all v.files old.outlet.files → new.outlet.said ≡ say v.said old.outlet.said →
      HasPaired true old.crew new.crew → IsReferenceRun plugs ticks keep out given old new files
  unfolding solo_after kept_verdict machine_verdict
  is_reference files v is written said worked =
      let got = bound_ok (read_all files (files_of keys given)) (λ list. or_stop (solo_after (setup_of given plugs) ticks keep (names_of out given) (inputs_of list))) v is in
      let made = stage_ok (machines_of (setup_of given plugs) (inputs_of got.0)) _ v got.2 in
      record {
        inputs = got.0;
        read = got.1;
        host = made.0.0;
        para = made.0.1;
        machines = made.1;
        written = written ∙ ap (λ (x : Verdict Ending). put_all x.files old.outlet.files) made.2;
        said = said ∙ ap (λ (x : Verdict Ending). say x.said old.outlet.said) made.2 ∙ say_nothing old.outlet.said;
        worked = worked;
      }

  told_reference : (v : Verdict Ending) → (o : Option Files) → ComesTo (plan plugs (run ticks out keep given)) o (Ok v) →
      new.outlet.files ≡ put_all v.files old.outlet.files → new.outlet.said ≡ say v.said old.outlet.said →
      HasPaired true old.crew new.crew → IfSome o (IsReferenceRun plugs ticks keep out given old new)
  told_reference v None comes written said worked = tt
  told_reference v (Some files) comes written said worked = is_reference files v comes written said worked

  run_done : CarriesOut (plan plugs (run ticks out keep given)) old new (Ok endings.Done) → IfSome old.shelf.files (IsReferenceRun plugs ticks keep out given old new)
  run_done c = told_reference c.ends.0 old.shelf.files c.ends.1.0 c.ends.3.files c.ends.3.said c.ends.1.1

done_headline : (plugs : List Plug) (c : Command) (old new : World) → EndsWith plugs c old new Done → Headline plugs (Some c) old new
unfolding EndsWith Headline
done_headline plugs (run ticks out keep given) old new e = run_done plugs ticks keep out given old new e
done_headline plugs c old new e = tt

-- a command that was carried out with status `Done` ended with `Done`
pub done_as : (plugs : List Plug) (c : Command) {old new : World} {status : Status} {end : Result Ending (Stop Cause)} → end_of status ≡ Some end →
    CarriesOut (plan plugs c) old new end → status ≡ Done → EndsWith plugs c old new Done
unfolding EndsWith
done_as plugs c {old = old} {new = new} {status = status} ended carried done =
    let ends : EndsWith plugs c old new status = rw ended carried in rw done at ends

pub headline_of : (plugs : List Plug) (c : Command) {o : Option Command} {old new : World} {status : Status} {end : Result Ending (Stop Cause)} → Some c ≡ o →
    end_of status ≡ Some end → CarriesOut (plan plugs c) old new end → status ≡ Done → Headline plugs o old new
headline_of plugs c {old = old} {new = new} is ended carried done = rw (← is) (done_headline plugs c old new (done_as plugs c ended carried done))
