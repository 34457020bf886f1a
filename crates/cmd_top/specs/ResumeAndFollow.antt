-- The theorems of sessions and of listings: the outputs of `resume` and `follow` that end with
-- `Done`.
use Rattle.std.specs.Prelude.{◌≡◌, ⊤, ℕ, List, ◌∷◌, ◌++◌, Option, None, Some, Result, Ok, codes}
use Rattle.beeb_bits.specs.declared.Side.{Side}
use Rattle.beeb_bits.specs.declared.Side.TheVariants.{Host, Para}
use Rattle.op_table.specs.declared.names.Part.{Part}
use Rattle.op_table.specs.declared.names.Part.TheVariants.{Nmos, Cmos}
use Rattle.beeb_files.specs.Files.{say}
use Rattle.cmd_words.specs.declared.keys.InputKind.{InputKind}
use Rattle.cmd_words.specs.Command.{Command, check, asm, dis, replay, solo, run, resume, follow, gen, ticks_of}
use Rattle.cmd_words.specs.Given.{Values, clock_of, save_of}
use Rattle.cmd_words.specs.Reads.{reads}
use Rattle.cmd_stages.specs.Plan as plans
use Rattle.cmd_stages.specs.Promise.{World, put_all}
use Rattle.cmd_stages.specs.declared.stop.Refusal.{Refusal}
use Rattle.cmd_status.specs.declared.status.Cause.{Cause}
use Rattle.bus_plug.specs.Plug.{Plug}
use Rattle.tube_trace.specs.declared.Entry.{Entry}
use Rattle.tube_party.specs.Transitions.{Transitions}
use Rattle.tube_party.specs.Reference.{reference}
use Rattle.host_mach.specs.State.{HostState}
use Rattle.host_mach.specs.Step.{host_transitions}
use Rattle.para_mach.specs.State.{ParaState}
use Rattle.para_mach.specs.Step.{para_transitions}
use Rattle.save_state.specs.Saved.{Session}
use Rattle.follow.specs.declared.Choice.{Choice}
use Rattle.follow.specs.Sight.{Sight}
use Rattle.follow.specs.Machines.{host_sight, para_sight}
use Rattle.follow.specs.Listing.{ListingState, replay_listing}
use Rattle.cmd_machines.specs.Inputs.{Inputs, inputs_of}
use Rattle.cmd_machines.specs.Setup.{setup_of}
use Rattle.cmd_machines.specs.Machines.{machines_of}
use Rattle.cmd_machines.specs.Sessions.{setup_in, inputs_in, begun_if}
use Rattle.cmd_outcome.specs.Names.{names_of}
use Rattle.cmd_replayed.specs.Made.{host_of, para_of}
use Rattle.cmd_ended.specs.Kept.{kept_verdict}
use Rattle.cmd_session.specs.Session.{state_of}
use Rattle.cmd_outcome.specs.Verdicts.{counts_file}
use Rattle.cmd_follow.specs.Follow.{listed_text, chosen_with}
use Rattle.cmd_top.specs.SoundFile.{WereRead}
use Rattle.cmd_top.specs.Plans.{choice_of}

-- The written files are those of the reference run of the session's machines, from power-on to the
-- end of the run.
pub record IsResumed (plugs : List Plug) (c : Command) (keep : ℕ) (out : List ℕ) (given : Values) (old new : World) : Type 0 where
  pub inputs : plans.Inputs InputKind
  pub read : WereRead (reads c) old.shelf.files inputs
  -- the session in the file, and both machines at power-on from its parts, with the devices as they
  -- were handed in
  pub session : Session
  pub held : state_of (inputs_of inputs).state ≡ Ok session
  pub machines : HostState × ParaState
  pub made : machines_of (setup_in session plugs) (inputs_in session) ≡ Ok machines
  pub written :
      new.outlet.files
      ≡ put_all (kept_verdict session.clock (begun_if (save_of given) (setup_in session plugs) (inputs_in session)) (ticks_of c) keep (names_of out given)
      (reference host_transitions para_transitions machines.0 machines.1 (ticks_of c))).files
      old.outlet.files
  -- nothing was said
  pub said : new.outlet.said ≡ old.outlet.said

-- The written files are the listing of the machine's replay, and the counts, if they are written.
-- The text with the listing's numbers was said after them.
pub record IsListed {S : Type 0} (c : Command) (made_of : Inputs → Result (List Entry × S) (Refusal Cause)) (m : Transitions S) (sights : S → Sight) (part : Part) (side : Side)
    (choice : Choice) (out : List ℕ) (old new : World) : Type 0 where
  pub inputs : plans.Inputs InputKind
  pub read : WereRead (reads c) old.shelf.files inputs
  pub entries : List Entry
  pub machine : S
  pub made : made_of (inputs_of inputs) ≡ Ok (entries, machine)
  -- the choice, with the addresses of the file, if one is given
  pub chosen : Choice
  pub chosen_is : chosen_with choice (inputs_of inputs).points ≡ Ok chosen
  pub listing : ListingState
  pub listing_is : listing ≡ replay_listing m sights part side entries (ticks_of c) chosen machine
  pub written : new.outlet.files ≡ put_all ((out ++ codes ".list", listing.text) ∷ counts_file out listing.counts) old.outlet.files
  pub said : new.outlet.said ≡ say (listed_text listing.listed listing.chosen) old.outlet.said

unfoldable pub ResumeAndFollow : List Plug → Option Command → World → World → Type 0
ResumeAndFollow plugs (Some (resume state ticks out keep given)) old new = IsResumed plugs (resume state ticks out keep given) keep out given old new
ResumeAndFollow plugs (Some (follow Host trace ticks out given)) old new =
    IsListed (follow Host trace ticks out given) (host_of (setup_of given plugs)) host_transitions host_sight Nmos Host (choice_of given) out old new
ResumeAndFollow plugs (Some (follow Para trace ticks out given)) old new =
    IsListed (follow Para trace ticks out given) (para_of (clock_of given)) para_transitions para_sight Cmos Para (choice_of given) out old new
ResumeAndFollow plugs (Some (check trace)) old new = ⊤
ResumeAndFollow plugs (Some (asm part source out)) old new = ⊤
ResumeAndFollow plugs (Some (dis part image origin out)) old new = ⊤
ResumeAndFollow plugs (Some (replay side trace ticks out given)) old new = ⊤
ResumeAndFollow plugs (Some (solo ticks out keep given)) old new = ⊤
ResumeAndFollow plugs (Some (run ticks out keep given)) old new = ⊤
ResumeAndFollow plugs (Some (gen seed)) old new = ⊤
ResumeAndFollow plugs None old new = ⊤
