-- The headline: the outputs of a `run` that ends with `Done`.
use Rattle.std.specs.Prelude.{◌≡◌, ⊤, ℕ, List, Option, None, Some, IfSome, Ok}
use Rattle.beeb_files.specs.Counts.{Rose}
use Rattle.beeb_files.specs.Files.{Files}
use Rattle.cmd_words.specs.declared.keys.InputKind.{InputKind}
use Rattle.cmd_words.specs.Command.{Command, check, asm, dis, replay, solo, run, resume, follow, gen}
use Rattle.cmd_words.specs.Given.{Values, clock_of, save_of}
use Rattle.cmd_words.specs.Keys.{keys}
use Rattle.cmd_words.specs.Reads.{files_of}
use Rattle.cmd_stages.specs.Plan as plans
use Rattle.cmd_stages.specs.Promise.{World, put_all}
use Rattle.bus_plug.specs.Plug.{Plug}
use Rattle.tube_party.specs.Reference.{reference}
use Rattle.host_mach.specs.State.{HostState}
use Rattle.host_mach.specs.Step.{host_transitions}
use Rattle.para_mach.specs.State.{ParaState}
use Rattle.para_mach.specs.Step.{para_transitions}
use Rattle.cmd_status.specs.declared.status.Cause.{Cause}
use Rattle.cmd_machines.specs.Inputs.{inputs_of}
use Rattle.cmd_machines.specs.Setup.{setup_of}
use Rattle.cmd_machines.specs.Machines.{machines_of}
use Rattle.cmd_machines.specs.Sessions.{begun_if}
use Rattle.cmd_outcome.specs.Names.{names_of}
use Rattle.cmd_ended.specs.Kept.{kept_verdict}

-- The written files are those of the reference run. No order of the steps of the two threads is
-- named.
pub record IsReferenceRun (plugs : List Plug) (ticks keep : ℕ) (out : List ℕ) (given : Values) (old new : World) (files : Files) : Type 0 where
  -- the bytes of the shelf's files with the given names
  pub inputs : plans.Inputs InputKind
  pub read : plans.read_all {C = Cause} files (files_of keys given) ≡ Ok inputs
  -- both machines at power-on from these bytes, with the given clock, the kinds of discs by their
  -- names, and the devices to plug as they were handed in
  pub host : HostState
  pub para : ParaState
  pub machines : machines_of (setup_of given plugs) (inputs_of inputs) ≡ Ok (host, para)
  -- These files of the reference run were put into the outlet: the report, both memories, the
  -- discs, the frames, the trace, the bytes of the plugged devices, and the sound file and the
  -- session file, if given.
  pub written :
      new.outlet.files
      ≡ put_all (kept_verdict (clock_of given) (begun_if (save_of given) (setup_of given plugs) (inputs_of inputs)) ticks keep (names_of out given)
      (reference host_transitions para_transitions host para ticks)).files
      old.outlet.files
  -- nothing was said
  pub said : new.outlet.said ≡ old.outlet.said
  -- the crew worked a pair of jobs
  pub worked : Rose old.crew.pairs new.crew.pairs

unfoldable pub Headline : List Plug → Option Command → World → World → Type 0
Headline plugs (Some (run ticks out keep given)) old new = IfSome old.shelf.files (IsReferenceRun plugs ticks keep out given old new)
Headline plugs (Some (check trace)) old new = ⊤
Headline plugs (Some (asm part source out)) old new = ⊤
Headline plugs (Some (dis part image origin out)) old new = ⊤
Headline plugs (Some (replay side trace ticks out given)) old new = ⊤
Headline plugs (Some (solo ticks out keep given)) old new = ⊤
Headline plugs (Some (resume state ticks out keep given)) old new = ⊤
Headline plugs (Some (follow side trace ticks out given)) old new = ⊤
Headline plugs (Some (gen seed)) old new = ⊤
Headline plugs None old new = ⊤
