-- The theorems of sessions and of listings follow from the promise of each command.
use Rattle.std.proofs.Common.{◌≡◌, ◌∙◌, sym, refl, ap, ℕ, List, Option, Some, Result, Ok}
use Rattle.beeb_bits.specs.declared.Side.{Side}
use Rattle.beeb_bits.specs.declared.Side.TheVariants.{Host, Para}
use Rattle.op_table.specs.declared.names.Part.{Part}
use Rattle.cmd_words.specs.Command.{Command, resume, follow, ticks_of}
use Rattle.cmd_words.specs.Given.{Values, clock_of}
use Rattle.host_mach.specs.Step.{host_transitions}
use Rattle.para_mach.specs.Step.{para_transitions}
use Rattle.follow.specs.Machines.{host_sight, para_sight}
use Rattle.cmd_replayed.specs.Made.{host_of, para_of}
use Rattle.op_table.specs.declared.names.Part.TheVariants.{Nmos, Cmos}
use Rattle.cmd_stages.specs.Plan.{Verdict, or_stop, ◌>>=◌}
use Rattle.cmd_stages.specs.Promise.{World, CarriesOut, put_all}
use Rattle.beeb_files.specs.Files.{say}
use Rattle.cmd_stages.specs.declared.stop.Stop.{Stop}
use Rattle.cmd_stages.specs.declared.stop.Refusal.{Refusal}
use Rattle.cmd_status.specs.declared.status.Ending.{Ending}
use Rattle.cmd_status.specs.declared.status.Ending.TheVariants as endings
use Rattle.cmd_status.specs.declared.status.Cause.{Cause}
use Rattle.cmd_status.specs.declared.status.Status.{Status}
use Rattle.cmd_status.specs.declared.status.Status.TheVariants.{Done}
use Rattle.cmd_status.specs.Status.{end_of}
use Rattle.bus_plug.specs.Plug.{Plug}
use Rattle.tube_trace.specs.declared.Entry.{Entry}
use Rattle.tube_trace.specs.FirstWrong.{wrong}
use Rattle.tube_party.specs.Transitions.{Transitions}
use Rattle.tube_party.specs.Replay.{replay_of}
use Rattle.follow.specs.declared.Choice.{Choice}
use Rattle.follow.specs.Sight.{Sight}
use Rattle.follow.specs.Listing.{ListingState, replay_listing}
use Rattle.cmd_machines.specs.Inputs.{Inputs, inputs_of}
use Rattle.cmd_machines.specs.Setup.{setup_of}
use Rattle.cmd_outcome.specs.Names.{names_of}
use Rattle.cmd_outcome.specs.Verdicts.{machine_verdict}
use Rattle.cmd_ended.specs.Kept.{kept_verdict}
use Rattle.cmd_follow.specs.Follow.{listed_verdict, listed_by, listed_ended, follow_after, chosen_with}
use Rattle.cmd_top.specs.Plans.{after, plan, choice_of}
use Rattle.cmd_top.specs.Commands.{EndsWith}
use Rattle.cmd_top.specs.ResumeAndFollow.{IsResumed, IsListed, ResumeAndFollow}
use Rattle.cmd_top.proofs.HeadlineLemmas.{say_nothing, done_as}
use Rattle.cmd_top.proofs.SoundFileLemmas.{placed, stage_two, session_done, was_read}

module _ (plugs : List Plug) (old new : World) where
  abbrev Ends : Command → Type 0
  Ends c = CarriesOut (plan plugs c) old new (Ok endings.Done)

  resume_gone : (state : List ℕ) (ticks keep : ℕ) (out : List ℕ) (given : Values) → Ends (resume state ticks out keep given)
      → IsResumed plugs (resume state ticks out keep given) keep out given old new
  unfolding kept_verdict machine_verdict
  resume_gone state ticks keep out given c =
      let read = was_read (plan plugs (resume state ticks out keep given)) old.shelf.files c.ends.0 c.ends.1.0 in
      let got = session_done plugs ticks keep (names_of out given) (inputs_of read.0) c.ends.0 read.2 c.ends.2 in
      record {
        inputs = read.0;
        read = read.1;
        session = got.0;
        held = got.2;
        machines = got.1;
        made = got.3;
        written = c.ends.3.files ∙ ap (λ (v : Verdict Ending). put_all v.files old.outlet.files) got.4;
        said = c.ends.3.said ∙ ap (λ (v : Verdict Ending). say v.said old.outlet.said) got.4 ∙ say_nothing old.outlet.said;
      }

  -- a listing that ended with `Done`
  listed_gone : {S : Type 0} (c : Command) (made_of : Inputs → Result (List Entry × S) (Refusal Cause)) (m : Transitions S) (sights : S → Sight) (part : Part) (side : Side) (choice : Choice)
      (out : List ℕ) → ((i : Inputs) → after plugs c i
      ≡ (made_of i >>= λ x. chosen_with choice i.points >>= λ chosen. Ok (listed_ended m sights part side (ticks_of c) chosen out x))) → Ends c →
      IsListed c made_of m sights part side choice out old new
  unfolding listed_by
  listed_gone c made_of m sights part side choice out comes e =
      let read = was_read (plan plugs c) old.shelf.files e.ends.0 e.ends.1.0 in
      let i : Inputs = inputs_of read.0 in
      let got = stage_two (made_of i) (λ x. chosen_with choice i.points) (λ x chosen. listed_ended m sights part side (ticks_of c) chosen out x) e.ends.0
      (ap or_stop (sym (comes i)) ∙ read.2) in
      let listing : ListingState = replay_listing m sights part side got.0.0 (ticks_of c) got.1 got.0.1 in
      let is : e.ends.0 ≡ listed_verdict out listing =
      placed (λ (l : ListingState). listed_verdict out l) listing (replay_of m side got.0.0 (ticks_of c) got.0.1).place (wrong got.0.0) e.ends.0 got.4 e.ends.2 in
      record {
        inputs = read.0;
        read = read.1;
        entries = got.0.0;
        machine = got.0.1;
        made = got.2;
        chosen = got.1;
        chosen_is = got.3;
        listing = listing;
        listing_is = refl;
        written = e.ends.3.files ∙ ap (λ (v : Verdict Ending). put_all v.files old.outlet.files) is;
        said = e.ends.3.said ∙ ap (λ (v : Verdict Ending). say v.said old.outlet.said) is;
      }

done_gone : (plugs : List Plug) (c : Command) (old new : World) → EndsWith plugs c old new Done → ResumeAndFollow plugs (Some c) old new
unfolding EndsWith ResumeAndFollow follow_after
done_gone plugs (resume state ticks out keep given) old new e = resume_gone plugs old new state ticks keep out given e
done_gone plugs (follow Host trace ticks out given) old new e =
    listed_gone plugs old new (follow Host trace ticks out given) (host_of (setup_of given plugs)) host_transitions host_sight Nmos Host (choice_of given) out (λ i. refl) e
done_gone plugs (follow Para trace ticks out given) old new e =
    listed_gone plugs old new (follow Para trace ticks out given) (para_of (clock_of given)) para_transitions para_sight Cmos Para (choice_of given) out (λ i. refl) e
done_gone plugs c old new e = tt

-- a command that was carried out with its status
pub gone_of : (plugs : List Plug) (c : Command) {o : Option Command} {old new : World} {status : Status} {end : Result Ending (Stop Cause)} → Some c ≡ o →
    end_of status ≡ Some end → CarriesOut (plan plugs c) old new end → status ≡ Done → ResumeAndFollow plugs o old new
gone_of plugs c {old = old} {new = new} is ended carried done = rw (← is) (done_gone plugs c old new (done_as plugs c ended carried done))
