-- A run that was saved, and the run resumed from its session file: they are one run.
use Rattle.std.specs.Prelude.{ℕ, ◌≡◌, ◌≤◌, nat_le, List, [], ◌∷◌, ◌++◌, length, map, take, Some, IfSome, IsTrue, Ok}
use Rattle.bus_plug.specs.Plug.{Plug}
use Rattle.rom_set.specs.Roms.{Rom}
use Rattle.tube_trace.specs.declared.Entry.{Entry}
use Rattle.tube_trace.specs.Entries.{accesses}
use Rattle.tube_party.specs.Reference.{reference}
use Rattle.host_mach.specs.State.{HostState}
use Rattle.host_mach.specs.Step.{host_transitions}
use Rattle.para_mach.specs.State.{ParaState}
use Rattle.para_mach.specs.Step.{para_transitions}
use Rattle.save_state.specs.Saved.{Session}
use Rattle.save_state.specs.File.{file_of, IsSession}
use Rattle.save_state.specs.Laws.{AreBytes}
use Rattle.cmd_words.specs.declared.keys.InputKind.{InputKind}
use Rattle.cmd_words.specs.Given.{Values}
use Rattle.cmd_words.specs.Command.{Command, solo, run}
use Rattle.cmd_words.specs.Reads.{reads, rise_from, IsWithin}
use Rattle.cmd_machines.specs.Inputs.{Inputs, inputs_of}
use Rattle.cmd_machines.specs.Setup.{Setup, setup_of}
use Rattle.cmd_machines.specs.Machines.{machines_of}
use Rattle.cmd_machines.specs.Sessions.{begun, setup_in, inputs_in}
use Rattle.cmd_stages.specs.Plan as plans
use Rattle.cmd_stages.specs.Plan.{Verdict, AreWithin}
use Rattle.cmd_status.specs.declared.status.Ending.{Ending}
use Rattle.cmd_status.specs.declared.status.Ending.TheVariants.{Done}
use Rattle.cmd_outcome.specs.Names.{Names}
use Rattle.cmd_ended.specs.Save.{saved_of}
use Rattle.cmd_pair.specs.Solo.{solo_after}
use Rattle.cmd_session.specs.Session.{state_of, session_after}

-- Paged ROMs are in slots below 16, in ascending order.
abbrev pub RiseBySlot : List Rom → Type 0
RiseBySlot roms = IsTrue (rise_from 0 (map (λ (rom : Rom). rom.slot) roms))

-- The beginning of a run: the words' choice of machines, the files that were read, the devices that
-- were handed in, and both machines at power-on.
pub record Begins (set : Setup) (i : Inputs) (plugs : List Plug) (m : HostState × ParaState) : Type 0 where
  pub made : machines_of set i ≡ Ok m
  pub number : set.number ≤ 8
  -- The words say how many of the devices are plugged in, the first ones.
  pub plugged : set.plugs ≡ take set.number plugs
  pub roms : RiseBySlot i.roms
  pub keys : IfSome i.keys (λ keys. length keys ≤ 1048576)

-- the Tube accesses of the reference run of `n` ticks
abbrev pub accesses_of : HostState × ParaState → ℕ → List Entry
accesses_of m n = accesses (reference host_transitions para_transitions m.0 m.1 n).list

-- the session of a run of `n` ticks that keeps its first `keep` accesses
abbrev pub saved_run : Setup → Inputs → HostState × ParaState → ℕ → ℕ → Session
saved_run set i m n keep = saved_of (begun set i) n (nat_le (length (accesses_of m n)) keep) (take keep (accesses_of m n))

-- The machines of a session of a run are those of the run, if the same devices are handed in. A
-- session of these machines begins as the run did.
abbrev pub MachinesAreMadeAgain : Type 0
MachinesAreMadeAgain =
    (set : Setup) (i : Inputs) (plugs : List Plug) (n : ℕ) (list : List Entry) →
    set.plugs ≡ take set.number plugs →
    RiseBySlot i.roms →
    let s : Session = record (begun set i) { ticks = n; entries = list } in
    (machines_of (setup_in s plugs) (inputs_in s) ≡ machines_of set i) × (begun (setup_in s plugs) (inputs_in s) ≡ begun set i)

-- The session of a run keeps the rules of a session, and its file reads as that session.
abbrev pub SavedRunIsRead : Type 0
SavedRunIsRead =
    (set : Setup) (i : Inputs) (plugs : List Plug) (m : HostState × ParaState) (n keep : ℕ) →
    Begins set i plugs m →
    n ≤ 1073741824 →
    keep ≤ 4194304 →
    IsSession (saved_run set i m n keep) × (state_of (file_of (saved_run set i m n keep)) ≡ Ok (saved_run set i m n keep))

-- The command ends with `done`, and its last file has this name and these bytes.
pub record EndsWith (name bytes : List ℕ) (v : Verdict Ending) : Type 0 where
  pub done : v.ending ≡ Done
  pub others : List (List ℕ × List ℕ)
  pub files : v.files ≡ others ++ (name, bytes) ∷ []

-- The last file of a run that is saved under a name is its session file.
abbrev pub SessionIsWritten : Type 0
SessionIsWritten =
    (set : Setup) (i : Inputs) (m : HostState × ParaState) (n keep : ℕ) (names : Names) (name : List ℕ) →
    machines_of set i ≡ Ok m →
    names.save ≡ Some name →
    (v : Verdict Ending) × (solo_after set n keep names i ≡ Ok v) × EndsWith name (file_of (saved_run set i m n keep)) v

-- A run resumed from the session file of a run, with the same devices, yields what an uninterrupted
-- run of the same number of ticks yields. That number may lie below, at or above the tick of the
-- session. The resumed run is not refused, no answer is wrong and no machine differs.
abbrev pub IsOneRun : Setup → Inputs → List Plug → HostState × ParaState → ℕ → ℕ → Type 0
IsOneRun set i plugs m n keep =
    (ticks kept : ℕ) (names : Names) (j : Inputs) →
    j.state ≡ file_of (saved_run set i m n keep) →
    (session_after plugs ticks kept names j ≡ solo_after set ticks kept names i)
    × ((v : Verdict Ending) × (session_after plugs ticks kept names j ≡ Ok v) × (v.ending ≡ Done))

abbrev pub SavedRunIsOneRun : Type 0
SavedRunIsOneRun =
    (set : Setup) (i : Inputs) (plugs : List Plug) (m : HostState × ParaState) (n keep : ℕ) →
    Begins set i plugs m →
    n ≤ 1073741824 →
    keep ≤ 4194304 →
    IsOneRun set i plugs m n keep

-- ---- From the words

-- What a command reads and its options say, for a run of `n` ticks that keeps its first `keep`
-- accesses: it is the beginning of a run, which can be resumed from its session file.
abbrev pub GoesOn : Command → ℕ → ℕ → Values → Type 0
GoesOn c n keep given =
    IsWithin c →
    (list : plans.Inputs InputKind) (plugs : List Plug) (m : HostState × ParaState) →
    AreWithin (reads c) list →
    machines_of (setup_of given plugs) (inputs_of list) ≡ Ok m →
    IsOneRun (setup_of given plugs) (inputs_of list) plugs m n keep

pub record WordsGoOn : Type 0 where
  pub solo : (ticks : ℕ) (out : List ℕ) (keep : ℕ) (given : Values) → GoesOn (solo ticks out keep given) ticks keep given
  pub run : (ticks : ℕ) (out : List ℕ) (keep : ℕ) (given : Values) → GoesOn (run ticks out keep given) ticks keep given

-- ---- From any session file

-- A session that a file holds is the beginning of a run, whoever wrote the file, if its machines
-- can be made.
abbrev pub SessionBegins : Type 0
SessionBegins =
    (bytes : List ℕ) (s : Session) (plugs : List Plug) (m : HostState × ParaState) →
    AreBytes bytes →
    state_of bytes ≡ Ok s →
    machines_of (setup_in s plugs) (inputs_in s) ≡ Ok m →
    Begins (setup_in s plugs) (inputs_in s) plugs m

-- A run resumed from any session file, which is done and saved, is the run of `n` ticks of that
-- session's machines from power-on. The last of its files is the session file of that run, and a
-- run resumed from it is one run with it.
pub record IsSavedAgain (s : Session) (plugs : List Plug) (n keep : ℕ) (name : List ℕ) (v : Verdict Ending) : Type 0 where
  pub machines : HostState × ParaState
  pub begins : Begins (setup_in s plugs) (inputs_in s) plugs machines
  pub written : EndsWith name (file_of (saved_run (setup_in s plugs) (inputs_in s) machines n keep)) v
  pub goes_on : IsOneRun (setup_in s plugs) (inputs_in s) plugs machines n keep

abbrev pub ResumedRunIsOneRun : Type 0
ResumedRunIsOneRun =
    (s : Session) (plugs : List Plug) (n keep : ℕ) (names : Names) (name : List ℕ) (j : Inputs) (v : Verdict Ending) →
    AreBytes j.state →
    state_of j.state ≡ Ok s →
    n ≤ 1073741824 →
    keep ≤ 4194304 →
    names.save ≡ Some name →
    session_after plugs n keep names j ≡ Ok v →
    v.ending ≡ Done →
    IsSavedAgain s plugs n keep name v
