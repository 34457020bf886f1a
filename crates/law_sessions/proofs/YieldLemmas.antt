-- Calls by the verdicts of their commands: one that ended with `Done`, and one of any status.
use Rattle.std.proofs.Common.{◌≡◌, ◌∙◌, refl, ap, subst, ◌⊎◌, inl, inr, IfSome, Option, Some, None, Result, Ok, Err, List}
use Rattle.std.specs.Prelude.{IsSomeAnd}
use Rattle.beeb_files.specs.Files.{Files}
use Rattle.bus_plug.specs.Plug.{Plug}
use Rattle.cmd_words.specs.Command.{Command}
use Rattle.cmd_stages.specs.declared.stop.Stop.{Stop}
use Rattle.cmd_stages.specs.declared.stop.Stop.TheVariants as stops
use Rattle.cmd_stages.specs.Plan.{Verdict, verdict, ComesTo}
use Rattle.cmd_stages.specs.Promise.{World, CarriesOut, IsComplete, NoFaultCounted, IsWhole, ending_of}
use Rattle.cmd_status.specs.declared.status.Ending.{Ending}
use Rattle.cmd_status.specs.declared.status.Ending.TheVariants as endings
use Rattle.cmd_status.specs.declared.status.Cause.{Cause}
use Rattle.cmd_status.specs.declared.status.Status.{Status}
use Rattle.cmd_status.specs.declared.status.Status.TheVariants.{Done, NoMemory}
use Rattle.cmd_status.specs.Status.{end_of}
use Rattle.cmd_top.specs.Plans.{plan}
use Rattle.cmd_top.specs.Commands.{EndsWith}
use Rattle.law_sessions.specs.TraceOfRun.{Yields}
use Rattle.law_sessions.proofs.InOrder.{same_end}

-- a call that ended with `Done` wrote the verdict of its command
pub done_whole : (plugs : List Plug) (c : Command) (files : Files) (old new : World) → old.shelf.files ≡ Some files → EndsWith plugs c old new Done →
    (v : Verdict Ending) × (verdict (plan plugs c) files ≡ Ok v) × IsWhole v old.outlet new.outlet
unfolding EndsWith
done_whole plugs c files old new told e =
    let comes : ComesTo (plan plugs c) (Some files) (Ok e.ends.0) = rw told at e.ends.1.0 in
    (e.ends.0, comes, e.ends.3)

same_verdict : {v w : Verdict Ending} {r : Result (Verdict Ending) (Stop Cause)} → r ≡ Ok v → r ≡ Ok w → v ≡ w
same_verdict one two = cc

module _ (plugs : List Plug) (c : Command) (files : Files) (v : Verdict Ending) (old new : World) (told : old.shelf.files ≡ Some files)
    (is : verdict (plan plugs c) files ≡ Ok v) (done : v.ending ≡ endings.Done) where
  whole : (status : Status) → EndsWith plugs c old new status → status ≡ Done → IsWhole v old.outlet new.outlet
  whole status e same =
      let got = done_whole plugs c files old new told (rw same at e) in
      rw (same_verdict is got.1) got.2

  ended : (status : Status) (end : Result Ending (Stop Cause)) → end_of status ≡ Some end → CarriesOut (plan plugs c) old new end →
      NoFaultCounted (plan plugs c) files old new → (status ≡ Done) ⊎ (status ≡ NoMemory)
  ended status end named carried none =
      let complete : IsComplete (plan plugs c) old new end files =
      subst (λ (o : Option Files). IfSome o (IsComplete (plan plugs c) old new end)) told carried.complete in
      by_end (complete none)
    where
      by_end : (end ≡ ending_of (verdict (plan plugs c) files)) ⊎ (end ≡ Err stops.NoMemory) → (status ≡ Done) ⊎ (status ≡ NoMemory)
      by_end (inl so) =
          inl (same_end status Done (named ∙ ap Some (so ∙ ap ending_of is ∙ ap (λ (x : Ending). Ok x) done)))
      by_end (inr so) = inr (same_end status NoMemory (named ∙ ap Some so))

  by_status : (status : Status) (o : Option (Result Ending (Stop Cause))) → end_of status ≡ o →
      IsSomeAnd o (λ end. CarriesOut (plan plugs c) old new end) →
      NoFaultCounted (plan plugs c) files old new → (status ≡ Done) ⊎ (status ≡ NoMemory)
  by_status status None named e none = absurd e
  by_status status (Some end) named e none = ended status end named e none

  pub yields : (status : Status) → EndsWith plugs c old new status → Yields plugs c files v old new status
  unfolding EndsWith
  yields status e = record { ends = by_status status (end_of status) refl e; done = whole status e }
