-- What the options for outputs change: `--wav` and `--save` add one file each. `--keep` changes the
-- report, the trace and the session file. `--from` leaves out lines of a listing.
use Rattle.std.specs.Prelude.{ℕ, ◌≡◌, ◌≤◌, nat_le, List, [], ◌∷◌, ◌++◌, length, take, filter, Option, Some, None, unwrap_or, codes}
use Rattle.beeb_bits.specs.declared.clock.Clock.{Clock}
use Rattle.beeb_bits.specs.declared.Side.{Side}
use Rattle.beeb_bits.specs.declared.Side.TheVariants.{Host, Para}
use Rattle.op_table.specs.declared.names.Part.{Part}
use Rattle.op_table.specs.declared.names.Part.TheVariants.{Nmos, Cmos}
use Rattle.tube_trace.specs.declared.Entry.{Entry}
use Rattle.tube_trace.specs.Entries.{accesses}
use Rattle.tube_trace.specs.Text.{text_of}
use Rattle.tube_party.specs.Reference.{World}
use Rattle.tube_party.specs.Transitions.{Transitions}
use Rattle.follow.specs.declared.Choice.{Choice}
use Rattle.follow.specs.Sight.{Sight}
use Rattle.follow.specs.Start.{StartState}
use Rattle.follow.specs.Listing.{ListingState, listing_of_chosen, replay_listing}
use Rattle.follow.specs.Machines.{host_sight, para_sight}
use Rattle.host_mach.specs.State.{HostState}
use Rattle.host_mach.specs.Step.{host_transitions}
use Rattle.para_mach.specs.State.{ParaState}
use Rattle.para_mach.specs.Step.{para_transitions}
use Rattle.report.specs.Text.{text}
use Rattle.cmd_stages.specs.Plan.{Verdict}
use Rattle.cmd_status.specs.declared.status.Ending.{Ending}
use Rattle.cmd_outcome.specs.Names.{Names, one_name}
use Rattle.cmd_outcome.specs.Left.{Left}
use Rattle.cmd_outcome.specs.Files.{host_line, para_line, frame_count, bytes_in}
use Rattle.cmd_outcome.specs.Sound.{sound_bytes}
use Rattle.cmd_outcome.specs.Verdicts.{machine_verdict}
use Rattle.cmd_ended.specs.Kept.{kept_verdict}

-- a file: its name and its bytes
abbrev pub File : Type 0
File = List ℕ × List ℕ

-- a file of these bytes, if a name is given for it
abbrev pub named_file : Option (List ℕ) → List ℕ → List File
named_file None bytes = []
named_file (Some name) bytes = (name, bytes) ∷ []

-- the same final state, without a sound file and a session file
abbrev pub without_names : Left → Left
without_names l = record l { names = one_name l.names.out }

-- A replay or a run with `--wav` and `--save` writes the files that it writes without them, and
-- then the sound file and the session file.
abbrev pub NamesAddFiles : Type 0
NamesAddFiles =
    (l : Left) →
    let bare : Verdict Ending = machine_verdict (without_names l) in
    machine_verdict l ≡
    record bare {
      files = bare.files ++ (named_file l.names.wav (bytes_in (sound_bytes l.clock l.ticks) l.host) ++ named_file l.names.save (unwrap_or l.saved []));
    }

-- the report of a run of which n accesses are kept
abbrev pub report_of : ℕ → World HostState ParaState → ℕ → List ℕ
report_of ticks w n =
    text ticks (Some (host_line w.host)) (Some (para_line w.para)) (length (accesses w.list)) (Some n) (Some (frame_count w.host))

-- `--keep` changes no file of a run but the report, which has the number of the accesses kept, and
-- the trace, which has these accesses.
abbrev pub KeepCutsTheTrace : Type 0
KeepCutsTheTrace =
    (clock : Clock) (ticks : ℕ) (out : List ℕ) (w : World HostState ParaState) →
    (front : List File) × (back : List File)
    × ((keep : ℕ) →
    let kept : List Entry = take keep (accesses w.list) in
    (kept_verdict clock None ticks keep (one_name out) w).files ≡
    (out ++ codes ".report", report_of ticks w (length kept)) ∷ (front ++ (out ++ codes ".trace", text_of clock kept) ∷ back))

-- The trace of fewer accesses is the beginning of the trace of more.
abbrev pub ShorterTraceIsBeginning : Type 0
ShorterTraceIsBeginning =
    (clock : Clock) (entries : List Entry) (less more : ℕ) → less ≤ more →
    (rest : List ℕ) × (text_of clock (take more entries) ≡ text_of clock (take less entries) ++ rest)

-- the same choice, from tick `from` on
abbrev pub with_from : ℕ → Choice → Choice
with_from from choice = record { from = from; at = choice.at; points = choice.points; watch = choice.watch; counts = choice.counts }

-- the starts at tick `from` or later
abbrev pub starts_from : ℕ → List StartState → List StartState
starts_from from starts = filter (λ s. nat_le from s.tick) starts

-- The starts `chosen` and `counted` are the same for each tick `from`. A listing and its counts are
-- those of these starts without the ones before `from`. This holds with `--watch` too.
abbrev pub FromLeavesOut : {S : Type 0} → Transitions S → (S → Sight) → Part → Side → Type 0
FromLeavesOut {S} m sights part side =
    (trace : List Entry) (n : ℕ) (choice : Choice) (s : S) →
    (chosen : List StartState) × (counted : List StartState)
    × ((from : ℕ) →
    replay_listing m sights part side trace n (with_from from choice) s ≡
    listing_of_chosen part choice n (starts_from from chosen) (starts_from from counted))

-- Ticks rise from line to line: the text from a tick on is the end of the whole text, if that has a
-- line for each chosen start.
abbrev pub FromIsEnd : {S : Type 0} → Transitions S → (S → Sight) → Part → Side → Type 0
FromIsEnd {S} m sights part side =
    (trace : List Entry) (n : ℕ) (choice : Choice) (s : S) (from : ℕ) →
    let listing : ℕ → ListingState = λ t. replay_listing m sights part side trace n (with_from t choice) s in
    (listing 0).chosen ≤ 1048576 →
    (front : List ℕ) × ((listing 0).text ≡ front ++ (listing from).text)

-- both, for the listing of one side
pub record FromTick {S : Type 0} (m : Transitions S) (sights : S → Sight) (part : Part) (side : Side) : Type 0 where
  pub leaves_out : FromLeavesOut m sights part side
  pub end : FromIsEnd m sights part side

-- all of these, those of `--from` for either side
pub record OutputOptions : Type 0 where
  pub names : NamesAddFiles
  pub keep : KeepCutsTheTrace
  pub shorter : ShorterTraceIsBeginning
  pub from_host : FromTick host_transitions host_sight Nmos Host
  pub from_para : FromTick para_transitions para_sight Cmos Para
