-- The words of `solo` and `run`, with the files that they name: the beginning of a run, if its
-- machines can be made.
use Rattle.std.specs.Prelude.{ℕ, ◌≡◌, List, Ok}
use Rattle.bus_plug.specs.Plug.{Plug}
use Rattle.host_mach.specs.State.{HostState}
use Rattle.para_mach.specs.State.{ParaState}
use Rattle.cmd_words.specs.declared.keys.InputKind.{InputKind}
use Rattle.cmd_words.specs.Given.{Values}
use Rattle.cmd_words.specs.Command.{Command, solo, run}
use Rattle.cmd_words.specs.Reads.{reads, IsWithin}
use Rattle.cmd_stages.specs.Plan as plans
use Rattle.cmd_stages.specs.Plan.{AreWithin}
use Rattle.cmd_machines.specs.Inputs.{inputs_of}
use Rattle.cmd_machines.specs.Setup.{setup_of}
use Rattle.cmd_machines.specs.Machines.{machines_of}
use Rattle.law_sessions.specs.OneRun.{Begins}

-- What a command reads and its options say is the beginning of a run with the devices that were
-- handed in.
abbrev pub Begin : Command → Values → Type 0
Begin c given =
    IsWithin c →
    (list : plans.Inputs InputKind) (plugs : List Plug) (m : HostState × ParaState) →
    AreWithin (reads c) list →
    machines_of (setup_of given plugs) (inputs_of list) ≡ Ok m →
    Begins (setup_of given plugs) (inputs_of list) plugs m

pub record WordsBegin : Type 0 where
  pub solo : (ticks : ℕ) (out : List ℕ) (keep : ℕ) (given : Values) → Begin (solo ticks out keep given) given
  pub run : (ticks : ℕ) (out : List ℕ) (keep : ℕ) (given : Values) → Begin (run ticks out keep given) given
