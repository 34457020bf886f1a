-- The status that is reported if several causes hold at once: that of the first in one list. Each
-- cause is a condition on the words, on the files of the shelf and on the devices that are handed
-- in, and does not depend on the other causes.
use Rattle.std.specs.Prelude.{ℕ, ◌+◌, ◌≡◌, ◌⊎◌, ◌↔◌, nat_lt, Bool, true, false, List, [], ◌∷◌, ◌++◌}
use Rattle.std.specs.Prelude.{map, length, unwrap_or, Option, Some, None, Contains, IfSome, Result, Ok, Err, if◌then◌else◌}
use Rattle.beeb_bits.specs.declared.clock.Clock.{Clock}
use Rattle.beeb_bits.specs.declared.Side.{Side}
use Rattle.beeb_bits.specs.declared.Side.TheVariants.{Host, Para}
use Rattle.beeb_files.specs.Files.{Files, bytes_of}
use Rattle.beeb_files.specs.Counts.{Stayed}
use Rattle.asm65.specs.declared.AsmError.{AsmError}
use Rattle.asm65.specs.declared.AsmError.TheVariants as asm_errors
use Rattle.asm65.specs.Source.{Program, source}
use Rattle.bus_plug.specs.Plug.{Plug}
use Rattle.key_script.specs.declared.Event.{Event}
use Rattle.key_script.specs.declared.ScriptError.{ScriptError}
use Rattle.key_script.specs.declared.ScriptError.TheVariants as script_errors
use Rattle.key_script.specs.Text.{script}
use Rattle.tube_trace.specs.declared.Entry.{Entry}
use Rattle.tube_trace.specs.declared.TraceError.{TraceError}
use Rattle.tube_trace.specs.declared.TraceError.TheVariants as trace_errors
use Rattle.tube_trace.specs.Trace.{trace}
use Rattle.tube_trace.specs.FirstWrong.{wrong}
use Rattle.tube_party.specs.declared.Doing.{Doing}
use Rattle.tube_party.specs.Replay.{replay_of}
use Rattle.follow.specs.declared.PointsError.{PointsError}
use Rattle.follow.specs.declared.PointsError.TheVariants as points_errors
use Rattle.follow.specs.Points.{points}
use Rattle.host_mach.specs.State as host
use Rattle.host_mach.specs.Step.{host_transitions}
use Rattle.para_mach.specs.State as para
use Rattle.para_mach.specs.Step.{para_transitions}
use Rattle.save_state.specs.declared.StateError.{StateError}
use Rattle.save_state.specs.declared.StateError.TheVariants as state_errors
use Rattle.save_state.specs.Saved.{Session}
use Rattle.save_state.specs.File as sessions
use Rattle.cmd_words.specs.declared.keys.InputKind.{InputKind}
use Rattle.cmd_words.specs.Command.{Command, check, asm, dis, replay, solo, run, resume, follow, gen}
use Rattle.cmd_words.specs.Reads.{reads}
use Rattle.cmd_stages.specs.Plan.{Verdict, Want, verdict}
use Rattle.cmd_stages.specs.Promise.{World, HasCrewStayed, read_names, names}
use Rattle.cmd_status.specs.declared.status.Status.{Status}
use Rattle.cmd_status.specs.declared.status.Status.TheVariants.{Done, Usage, ReadFault, TooLong, BadImage, BadScript, BadPoints, BadTrace}
use Rattle.cmd_status.specs.declared.status.Status.TheVariants.{BadSource, BadState, WriteFault, NoThread, NoMemory, Wrong, Differs}
use Rattle.cmd_status.specs.declared.status.Ending.{Ending}
use Rattle.cmd_status.specs.declared.status.Which.TheVariants.{Image}
use Rattle.cmd_status.specs.Status.{number}
use Rattle.cmd_machines.specs.Inputs.{Inputs, inputs_of}
use Rattle.cmd_machines.specs.Setup.{Setup, setup_of}
use Rattle.cmd_machines.specs.Lengths.{Sized, host_images, para_images, both_images, disc_in, roms_in}
use Rattle.cmd_machines.specs.Sessions.{setup_in, inputs_in}
use Rattle.cmd_outcome.specs.Trace.{is_same}
use Rattle.cmd_session.specs.Session.{place_of}
use Rattle.cmd_top.specs.Plans.{plan}
use Rattle.cmd_top.specs.Commands.{EndsWith}

-- ---- The first cause that holds

-- A cause is its status if it holds, and none if it does not. The status of a list of causes is
-- that of the first that holds, or `Done` if none holds.
abbrev pub first_of : List (Option Status) → Status
first_of [] = Done
first_of (None ∷ causes) = first_of causes
first_of (Some status ∷ causes) = status

-- ---- The causes

-- The file is missing, or longer than the command takes.
abbrev pub unread_by : List ℕ → ℕ → Option (List ℕ) → Option Status
unread_by name cap None = Some (ReadFault name)
unread_by name cap (Some bytes) = if nat_lt cap (length bytes) then Some (TooLong name) else None

abbrev pub unread : Files → Want InputKind → Option Status
unread files w = unread_by w.1 w.2 (bytes_of files w.1)

-- The image's length is outside its set.
abbrev pub misfit : Sized → Option Status
misfit s = if s.fits then None else Some (BadImage s.place s.len)

-- A line of the trace is outside its form, or not after the line before it.
abbrev pub bad_trace : Result (Clock × List Entry) TraceError → Option Status
bad_trace (Ok t) = None
bad_trace (Err (trace_errors.BadLine line)) = Some (BadTrace line 1)
bad_trace (Err (trace_errors.BadOrder line)) = Some (BadTrace line 2)
bad_trace (Err trace_errors.NoMemory) = Some NoMemory

-- The trace has the other clock.
abbrev pub other_clock : Clock → Result (Clock × List Entry) TraceError → Option Status
other_clock clock (Ok t) = if is_same clock t.0 then None else Some (BadTrace 1 4)
other_clock clock (Err e) = None

-- The host has no Tube, and the trace is not empty.
abbrev pub traced : List ℕ → Option Status
traced [] = None
traced (b ∷ bytes) = Some (BadTrace 1 5)

-- A line of the script is outside its form, or before the line before it, or takes one shot too
-- many.
abbrev pub bad_script_by : Result (List Event) ScriptError → Option Status
bad_script_by (Ok events) = None
bad_script_by (Err (script_errors.BadLine line)) = Some (BadScript line 1)
bad_script_by (Err (script_errors.BadOrder line)) = Some (BadScript line 2)
bad_script_by (Err (script_errors.TooManyShots line)) = Some (BadScript line 3)
bad_script_by (Err script_errors.NoMemory) = Some NoMemory

abbrev pub bad_script : Option (List ℕ) → Option Status
bad_script None = None
bad_script (Some text) = bad_script_by (script text)

-- A line of the file of addresses is outside its form, or does not rise.
abbrev pub bad_points_by : Result (List Bool) PointsError → Option Status
bad_points_by (Ok marked) = None
bad_points_by (Err (points_errors.BadLine line)) = Some (BadPoints line 1)
bad_points_by (Err (points_errors.BadOrder line)) = Some (BadPoints line 2)
bad_points_by (Err points_errors.NoMemory) = Some NoMemory

abbrev pub bad_points : Option (List ℕ) → Option Status
bad_points None = None
bad_points (Some text) = bad_points_by (points text)

-- A field of the session file is outside its set.
abbrev pub bad_state : Result Session StateError → Option Status
bad_state (Ok s) = None
bad_state (Err (state_errors.BadField at)) = Some (BadState at)
bad_state (Err state_errors.NoMemory) = Some NoMemory

-- A line of the source text has no meaning.
abbrev pub bad_source : Result Program AsmError → Option Status
bad_source (Ok program) = None
bad_source (Err (asm_errors.Syntax line)) = Some (BadSource line 1)
bad_source (Err (asm_errors.NoSuchForm line)) = Some (BadSource line 2)
bad_source (Err (asm_errors.UnknownLabel line)) = Some (BadSource line 3)
bad_source (Err (asm_errors.Repeated line)) = Some (BadSource line 4)
bad_source (Err (asm_errors.OutOfRange line)) = Some (BadSource line 5)
bad_source (Err (asm_errors.TooLong line)) = Some (BadSource line 6)
bad_source (Err asm_errors.NoMemory) = Some NoMemory

-- The image passes the end of memory.
abbrev pub past_the_end : ℕ → List ℕ → Option Status
past_the_end origin bytes = if nat_lt 65536 (origin + length bytes) then Some (BadImage Image (length bytes)) else None

-- The chip would not give the answer of an entry: the entry's line, and the byte that the chip
-- would give.
abbrev pub wrong_by : Option (ℕ × ℕ) → Option Status
wrong_by None = None
wrong_by (Some w) = Some (Wrong (w.0 + 1) w.1)

-- The machine and the entries differ in this place.
abbrev pub differs_at : Option (ℕ × Option Doing) → Option Status
differs_at None = None
differs_at (Some place) = Some (Differs place.0 place.1)

-- ---- The subjects of the causes

-- the bytes of each file that is read, or none if the shelf has no such file
abbrev pub held : Files → List (Want InputKind) → List (InputKind × List ℕ)
held files ws = map (λ (w : Want InputKind). (w.0, unwrap_or (bytes_of files w.1) [])) ws

-- the entries of a trace, or none if the bytes are no trace
abbrev pub entries_in : Result (Clock × List Entry) TraceError → List Entry
entries_in (Ok t) = t.1
entries_in (Err e) = []

-- the events of a script, or none if the bytes are no script
abbrev pub events_by : Result (List Event) ScriptError → List Event
events_by (Ok events) = events
events_by (Err e) = []

abbrev pub events_in : Option (List ℕ) → List Event
events_in None = []
events_in (Some text) = events_by (script text)

-- the host at power-on with these bytes, of any length
abbrev pub host_at : Setup → Inputs → host.HostState
host_at set i = host.power_on set.clock (roms_in i) (disc_in set.kinds.0 i.disc0) (disc_in set.kinds.1 i.disc1) (events_in i.keys) set.plugs

-- ---- The order

-- A trace: its form and its clock. A host without a Tube has an empty trace.
abbrev pub trace_causes : Bool → Clock → List ℕ → List (Option Status)
trace_causes true clock bytes = bad_trace (trace bytes) ∷ other_clock clock (trace bytes) ∷ []
trace_causes false clock bytes = traced bytes ∷ []

-- the comparison with the entries: a wrong answer, and a difference
abbrev pub entry_causes : List Entry → Option (ℕ × Option Doing) → List (Option Status)
entry_causes entries place = wrong_by (wrong entries) ∷ differs_at place ∷ []

-- a machine and its trace: lengths of images, the trace and the script, and then `more`
abbrev pub made_causes : Setup → Side → Inputs → List (Option Status) → List (Option Status)
made_causes set Host i others =
    map misfit (host_images set.kinds i)
    ++ (trace_causes set.tube set.clock i.trace
    ++ bad_script i.keys ∷ others)
made_causes set Para i others = map misfit (para_images i) ++ (trace_causes true set.clock i.trace ++ others)

-- the machine's replay
abbrev pub replayed_causes : Setup → Side → ℕ → Inputs → List (Option Status)
replayed_causes set Host ticks i =
    let entries : List Entry = entries_in (trace i.trace) in
    entry_causes entries (replay_of host_transitions Host entries ticks (host.with_tube set.tube (host_at set i))).place
replayed_causes set Para ticks i =
    let entries : List Entry = entries_in (trace i.trace) in
    entry_causes entries (replay_of para_transitions Para entries ticks (para.power_on set.clock i.tube)).place

abbrev pub replay_causes : Setup → Side → ℕ → Inputs → List (Option Status)
replay_causes set side ticks i = made_causes set side i (replayed_causes set side ticks i)

-- a listing: the file of addresses comes before the replay
abbrev pub follow_causes : Setup → Side → ℕ → Inputs → List (Option Status)
follow_causes set side ticks i = made_causes set side i (bad_points i.points ∷ replayed_causes set side ticks i)

-- a run of both machines: lengths of images, and then the script
abbrev pub pair_causes : Setup → Inputs → List (Option Status)
pair_causes set i = map misfit (both_images set.kinds i) ++ bad_script i.keys ∷ []

-- a session, if the file holds one: the lengths of its images, its script, a wrong answer, and a
-- difference. The form of the session file has tested the lengths already.
abbrev pub session_causes : List Plug → ℕ → Result Session StateError → List (Option Status)
session_causes plugs ticks (Err e) = []
session_causes plugs ticks (Ok s) =
    map misfit (both_images (setup_in s plugs).kinds (inputs_in s))
    ++ bad_script (inputs_in s).keys
    ∷ wrong_by (wrong s.entries)
    ∷ differs_at (place_of s ticks (host_at (setup_in s plugs) (inputs_in s), para.power_on s.clock (inputs_in s).tube))
    ∷ []

-- the causes in the files that a command reads
abbrev pub read_causes : List Plug → Command → Inputs → List (Option Status)
read_causes plugs (check name) i = bad_trace (trace i.trace) ∷ wrong_by (wrong (entries_in (trace i.trace))) ∷ []
read_causes plugs (asm part text out) i = bad_source (source part i.source) ∷ []
read_causes plugs (dis part image origin out) i = past_the_end origin i.image ∷ []
read_causes plugs (replay side name ticks out given) i = replay_causes (setup_of given plugs) side ticks i
read_causes plugs (solo ticks out keep given) i = pair_causes (setup_of given plugs) i
read_causes plugs (run ticks out keep given) i = pair_causes (setup_of given plugs) i
read_causes plugs (resume state ticks out keep given) i = bad_state (sessions.file i.state) ∷ session_causes plugs ticks (sessions.file i.state)
read_causes plugs (follow side name ticks out given) i = follow_causes (setup_of given plugs) side ticks i
read_causes plugs (gen seed) i = []

-- the causes for words that spell a command, or none: each file in the order of reading, and then
-- the contents of the files
abbrev pub causes : List Plug → Files → Option Command → List (Option Status)
causes plugs files None = Some Usage ∷ []
causes plugs files (Some c) = map (unread files) (reads c) ++ read_causes plugs c (inputs_of (held files (reads c)))

-- ---- The law

-- the contract of a top call on its status, for words that spell a command or none
pub record IsAnswer (plugs : List Plug) (spelt : Option Command) (old new : World) (status : Status) : Type 0 where
  pub usage : (status ≡ Usage) ↔ (spelt ≡ None)
  pub ran : IfSome spelt (λ c. EndsWith plugs c old new status)

-- No fault was counted for the name of a file that is there or is written, for the text, or for the
-- crew.
pub record NoFault (plugs : List Plug) (files : Files) (old new : World) (c : Command) : Type 0 where
  pub read : (name bytes : List ℕ) → Contains (read_names (reads c)) name → bytes_of files name ≡ Some bytes → Stayed (old.shelf.faults name) (new.shelf.faults name)
  pub written : (v : Verdict Ending) → verdict (plan plugs c) files ≡ Ok v → (name : List ℕ) → Contains (names v.files) name →
      Stayed (old.outlet.faults name) (new.outlet.faults name)
  pub said : Stayed old.outlet.say_faults new.outlet.say_faults
  pub crew : HasCrewStayed (plan plugs c).paired old.crew new.crew

-- Nothing is refused before the command writes: it is done, or reports a wrong answer or a
-- difference.
abbrev pub ComesToWriting : List (Option Status) → Type 0
ComesToWriting list = (number (first_of list) ≡ 0) ⊎ (number (first_of list) ≡ 8)

-- The cause of each status, if the shelf has the files.
pub record RefusesInOrder (plugs : List Plug) (files : Files) (spelt : Option Command) (old new : World) (status : Status) : Type 0 where
  -- If no fault was counted, the status is that of the first cause that holds, or memory ran out.
  pub first : IfSome spelt (NoFault plugs files old new) → (status ≡ first_of (causes plugs files spelt)) ⊎ (status ≡ NoMemory)
  -- A fault of reading takes the place of its file: no cause holds for the files before it.
  pub reading : (name : List ℕ) → status ≡ ReadFault name →
      (c : Command) × (front : List (Want InputKind)) × (w : Want InputKind) × (rest : List (Want InputKind))
      × (spelt ≡ Some c) × (reads c ≡ front ++ w ∷ rest) × (w.1 ≡ name) × (first_of (map (unread files) front) ≡ Done)
  -- Faults of threads and of writing come after all reading.
  pub starting : status ≡ NoThread → ComesToWriting (causes plugs files spelt)
  pub writing : (name : List ℕ) → status ≡ WriteFault name → ComesToWriting (causes plugs files spelt)
  -- The files never determine that memory runs out.
  pub named : first_of (causes plugs files spelt) ≡ NoMemory → ⊥

-- The status of each top call has its cause, if the shelf has the files.
abbrev pub RefusalsInOrder : Type 0
RefusalsInOrder =
    (plugs : List Plug) (files : Files) (spelt : Option Command) (old new : World) (status : Status) →
    old.shelf.files ≡ Some files →
    IsAnswer plugs spelt old new status →
    RefusesInOrder plugs files spelt old new status
