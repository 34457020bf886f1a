-- The trace that `solo` or `run` writes, read by a later call: from file to file, over both calls.
use Rattle.std.specs.Prelude.{ℕ, ◌≡◌, ◌⊎◌, ◌≤◌, min, true, List, ◌++◌, length, All, Some, Ok, codes}
use Rattle.beeb_bits.specs.declared.clock.Clock.{Clock}
use Rattle.beeb_bits.specs.declared.Side.{Side}
use Rattle.beeb_bits.specs.declared.Side.TheVariants.{Host, Para}
use Rattle.beeb_files.specs.Files.{Files, bytes_of}
use Rattle.bus_plug.specs.Plug.{Plug}
use Rattle.op_table.specs.declared.names.Part.TheVariants.{Nmos, Cmos}
use Rattle.tube_chip.specs.Events.{of_side}
use Rattle.tube_trace.specs.Entries.{accesses}
use Rattle.tube_trace.specs.Laws.{IsOfByte}
use Rattle.tube_party.specs.Reference.{World as Worlds, reference}
use Rattle.follow.specs.declared.Choice.{Choice}
use Rattle.follow.specs.Listing.{ListingState}
use Rattle.follow.specs.Machines.{host_sight, para_sight}
use Rattle.follow.specs.Reference.{reference_listing}
use Rattle.host_mach.specs.State.{HostState}
use Rattle.host_mach.specs.Step.{host_transitions}
use Rattle.para_mach.specs.State.{ParaState}
use Rattle.para_mach.specs.Step.{para_transitions}
use Rattle.cmd_words.specs.declared.keys.InputKind.{InputKind}
use Rattle.cmd_words.specs.Keys.{keys}
use Rattle.cmd_words.specs.Given.{Values, clock_of, wav_of, save_of}
use Rattle.cmd_words.specs.Command.{Command, check, replay, solo, run, follow}
use Rattle.cmd_words.specs.Reads.{files_of, reads, IsWithin}
use Rattle.cmd_stages.specs.Plan as plans
use Rattle.cmd_stages.specs.Plan.{Verdict}
use Rattle.cmd_stages.specs.Promise.{World, NoFaultCounted, IsWhole}
use Rattle.cmd_status.specs.declared.status.Ending.{Ending}
use Rattle.cmd_status.specs.declared.status.Ending.TheVariants as endings
use Rattle.cmd_status.specs.declared.status.Cause.{Cause}
use Rattle.cmd_status.specs.declared.status.Status.{Status}
use Rattle.cmd_status.specs.declared.status.Status.TheVariants.{Done, NoMemory}
use Rattle.cmd_machines.specs.Inputs.{Inputs, inputs_of}
use Rattle.cmd_machines.specs.Setup.{Setup, setup_of}
use Rattle.cmd_machines.specs.Machines.{machines_of}
use Rattle.cmd_outcome.specs.Left.{Left}
use Rattle.cmd_outcome.specs.Names.{Names, names_of}
use Rattle.cmd_outcome.specs.Verdicts.{said_verdict, machine_verdict, host_left, para_left}
use Rattle.cmd_tools.specs.Check.{ok_text}
use Rattle.cmd_follow.specs.Follow.{listed_verdict, chosen_with}
use Rattle.cmd_top.specs.Plans.{plan, choice_of}
use Rattle.cmd_top.specs.Commands.{EndsWith}
use Rattle.law_sessions.specs.OneRun.{accesses_of}

-- the name of a run's trace
abbrev pub trace_name : List ℕ → List ℕ
trace_name out = out ++ codes ".trace"

-- A call of `solo` or `run` ended with `Done`. The shelf and the outlet show their files. The sound
-- file and the session file, which are put after the trace, have other names.
pub record HasRun (plugs : List Plug) (c : Command) (out : List ℕ) (given : Values) (old new : World) (files written : Files) : Type 0 where
  pub shelf : old.shelf.files ≡ Some files
  pub outlet : new.outlet.files ≡ Some written
  pub done : EndsWith plugs c old new Done
  pub wav : wav_of given ≡ Some (trace_name out) → ⊥
  pub save : save_of given ≡ Some (trace_name out) → ⊥

-- both machines at power-on, made of the bytes of the files that the options name
pub record AreMachines (plugs : List Plug) (given : Values) (files : Files) (list : plans.Inputs InputKind) (m : HostState × ParaState) : Type 0 where
  pub read : plans.read_all {C = Cause} files (files_of keys given) ≡ Ok list
  pub made : machines_of (setup_of given plugs) (inputs_of list) ≡ Ok m

-- A later call, whose shelf shows its files: under this name it has the bytes that the outlet got
-- as the run's trace.
pub record Rereads (plugs : List Plug) (c : Command) (name out : List ℕ) (written : Files) (old new : World) (files : Files)
    (status : Status) : Type 0 where
  pub shelf : old.shelf.files ≡ Some files
  pub same : bytes_of files name ≡ bytes_of written (trace_name out)
  pub ran : EndsWith plugs c old new status

-- The status is `Done` or `NoMemory` if no fault is counted. If it is `Done`, the files and the text
-- of the verdict were written.
pub record Yields (plugs : List Plug) (c : Command) (files : Files) (v : Verdict Ending) (old new : World) (status : Status) : Type 0 where
  pub ends : NoFaultCounted (plan plugs c) files old new → (status ≡ Done) ⊎ (status ≡ NoMemory)
  pub done : status ≡ Done → IsWhole v old.outlet new.outlet

-- `Holds` is so of each call of `solo` or `run` that ended with `Done`, if each byte that the run's
-- accesses exchange is below 256. It speaks of the run's machines and of the outlet's files.
abbrev pub AfterRun : Command → ℕ → List ℕ → Values → (List Plug → plans.Inputs InputKind → HostState × ParaState → Files → Type 0) →
    Type 0
AfterRun c n out given Holds =
    IsWithin c →
    (plugs : List Plug) (files written : Files) (old new : World) →
    HasRun plugs c out given old new files written →
    (list : plans.Inputs InputKind) × (m : HostState × ParaState) × AreMachines plugs given files list m
    × (All IsOfByte (accesses_of m n) → Holds plugs list m written)

-- Of a run, its ticks, the number of accesses to keep, the name of its outputs, its options, the
-- given devices, what it read, its machines, and the files that the outlet has after it.
abbrev pub OfRun : Type 1
OfRun = ℕ → ℕ → List ℕ → Values → List Plug → plans.Inputs InputKind → HostState × ParaState → Files → Type 0

pub record AfterEach (Holds : OfRun) : Type 0 where
  pub solo : (n keep : ℕ) (out : List ℕ) (given : Values) → AfterRun (solo n out keep given) n out given (Holds n keep out given)
  pub run : (n keep : ℕ) (out : List ℕ) (given : Values) → AfterRun (run n out keep given) n out given (Holds n keep out given)

-- ---- `check`

-- `check` of the trace finds each answer right: it says `ok` with the number of accesses that the
-- run kept. That is the number of all of its accesses, if they are at most `keep`.
abbrev pub IsChecked : OfRun
IsChecked n keep out given plugs list m written =
    (others : List Plug) (name : List ℕ) (shelf : Files) (start last : World) (status : Status) →
    Rereads others (check name) name out written start last shelf status →
    Yields others (check name) shelf (said_verdict endings.Done (ok_text (min keep (length (accesses_of m n))))) start last status

abbrev pub RunIsChecked : Type 0
RunIsChecked = AfterEach IsChecked

-- ---- `replay`

-- The host of a later call is that of a run: the same bytes, clock, kinds of discs and devices, and
-- there is a Tube.
pub record IsSameHost (set : Setup) (i : Inputs) (again : Setup) (j : Inputs) : Type 0 where
  pub clock : again.clock ≡ set.clock
  pub kinds : again.kinds ≡ set.kinds
  pub plugs : again.plugs ≡ set.plugs
  pub tube : again.tube ≡ true
  pub os : j.os ≡ i.os
  pub roms : j.roms ≡ i.roms
  pub font : j.font ≡ i.font
  pub disc0 : j.disc0 ≡ i.disc0
  pub disc1 : j.disc1 ≡ i.disc1
  pub keys : j.keys ≡ i.keys

-- The second processor of a later call is that of a run: the same boot ROM and clock.
pub record IsSamePara (set : Setup) (i : Inputs) (again : Setup) (j : Inputs) : Type 0 where
  pub clock : again.clock ≡ set.clock
  pub tube : j.tube ≡ i.tube

-- a machine of the later call is that of the run
abbrev pub IsSameMachine : Side → Setup → Inputs → Setup → Inputs → Type 0
IsSameMachine Host set i again j = IsSameHost set i again j
IsSameMachine Para set i again j = IsSamePara set i again j

-- the run of `n` ticks
abbrev pub run_of : HostState × ParaState → ℕ → Worlds HostState ParaState
run_of m n = reference host_transitions para_transitions m.0 m.1 n

-- the number of a side's accesses in the run
abbrev pub count_of : Side → HostState × ParaState → ℕ → ℕ
count_of side m n = length (accesses (of_side side (run_of m n).list))

-- The final state of one side of the run.
abbrev pub left_of : Side → Clock → HostState × ParaState → ℕ → Names → Left
left_of Host clock m n names = host_left clock n (count_of Host m n) names (run_of m n).host
left_of Para clock m n names = para_left clock n (count_of Para m n) names (run_of m n).para

-- `replay` of either side against the trace, with all accesses of the run and the same machine,
-- meets no difference, and writes the files of that machine at the end of the run.
abbrev pub IsReplayed : OfRun
IsReplayed n keep out given plugs list m written =
    length (accesses_of m n) ≤ keep →
    (side : Side) (others : List Plug) (name into : List ℕ) (options : Values) (read : plans.Inputs InputKind) →
    (shelf : Files) (start last : World) (status : Status) →
    Rereads others (replay side name n into options) name out written start last shelf status →
    plans.read_all {C = Cause} shelf (reads (replay side name n into options)) ≡ Ok read →
    IsSameMachine side (setup_of given plugs) (inputs_of list) (setup_of options others) (inputs_of read) →
    Yields others (replay side name n into options) shelf (machine_verdict (left_of side (clock_of given) m n (names_of into options))) start last status

abbrev pub RunIsReplayed : Type 0
RunIsReplayed = AfterEach IsReplayed

-- ---- `follow`

-- the listing of a side in the run
abbrev pub listing_in : Side → Choice → HostState × ParaState → ℕ → ListingState
listing_in Host choice m n = reference_listing host_transitions para_transitions host_transitions (λ w. w.host) host_sight Nmos choice m.0 m.1 n
listing_in Para choice m n = reference_listing host_transitions para_transitions para_transitions (λ w. w.para) para_sight Cmos choice m.0 m.1 n

-- `follow` of either side against the trace lists the instructions that the side starts in the run.
-- `chosen` has the addresses of the file, if one is given.
abbrev pub IsFollowed : OfRun
IsFollowed n keep out given plugs list m written =
    length (accesses_of m n) ≤ keep →
    (side : Side) (others : List Plug) (name into : List ℕ) (options : Values) (read : plans.Inputs InputKind) (chosen : Choice) →
    (shelf : Files) (start last : World) (status : Status) →
    Rereads others (follow side name n into options) name out written start last shelf status →
    plans.read_all {C = Cause} shelf (reads (follow side name n into options)) ≡ Ok read →
    IsSameMachine side (setup_of given plugs) (inputs_of list) (setup_of options others) (inputs_of read) →
    chosen_with (choice_of options) (inputs_of read).points ≡ Ok chosen →
    Yields others (follow side name n into options) shelf (listed_verdict into (listing_in side chosen m n)) start last status

abbrev pub RunIsFollowed : Type 0
RunIsFollowed = AfterEach IsFollowed
