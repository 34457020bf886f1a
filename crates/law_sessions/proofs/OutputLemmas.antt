-- What the options for outputs change.
use Rattle.std.proofs.Common.{◌≡◌, ◌∙◌, sym, refl, ap, ap₂, ℕ, zero, suc, ◌+◌, ◌-◌, ◌≤◌}
use Rattle.std.proofs.Common.{Bool, true, false, ◌&&◌, List, [], ◌∷◌, ◌++◌, map, length, take, drop}
use Rattle.std.proofs.Common.{Option, Some, None, codes, append_assoc, append-nil, take-add, arith}
use Rattle.std.specs.Prelude.{unwrap_or}
use Rattle.std.specs.List.{list_all}
use Rattle.std.proofs.lemmas.List.{map-append}
use Rattle.std.proofs.lemmas.List.Folds.{list_all-append}
use Rattle.std.proofs.lemmas.List.Concat.{flat_map-append}
use Rattle.beeb_bits.specs.declared.clock.Clock.{Clock}
use Rattle.beeb_bits.specs.declared.Side.{Side}
use Rattle.beeb_bits.specs.declared.Side.TheVariants.{Host, Para}
use Rattle.tube_trace.specs.declared.Entry.{Entry}
use Rattle.tube_trace.specs.Entries.{accesses}
use Rattle.tube_trace.specs.Text.{text_of, line_text, lines_text}
use Rattle.tube_trace.specs.Trace.{beginning}
use Rattle.tube_party.specs.Reference.{World}
use Rattle.host_bus.specs.Bus.{bus_disc}
use Rattle.op_table.specs.declared.names.Part.{Part}
use Rattle.op_table.specs.declared.names.Part.TheVariants.{Nmos, Cmos}
use Rattle.tube_party.specs.Transitions.{Transitions, IsLawful}
use Rattle.follow.specs.Sight.{Sight}
use Rattle.follow.specs.Machines.{host_sight, para_sight}
use Rattle.host_mach.specs.State.{HostState}
use Rattle.host_mach.specs.Step.{host_transitions}
use Rattle.host_mach.specs.Lawful.{host_lawful}
use Rattle.para_mach.specs.State.{ParaState}
use Rattle.para_mach.specs.Step.{para_transitions}
use Rattle.para_mach.specs.Lawful.{para_lawful}
use Rattle.cmd_stages.specs.Plan.{Verdict}
use Rattle.cmd_status.specs.declared.status.Ending.{Ending}
use Rattle.cmd_status.specs.declared.status.Ending.TheVariants.{Done}
use Rattle.cmd_outcome.specs.declared.output.Output.{Output}
use Rattle.cmd_outcome.specs.declared.output.Output.TheVariants.{Report, Memory, Disc, Frame, Trace, Plug, Sound, Session, Listing, Counts, Bytes}
use Rattle.cmd_outcome.specs.Names.{Names, one_name}
use Rattle.cmd_outcome.specs.Left.{Left, Kept}
use Rattle.cmd_outcome.specs.Outputs.{if_there, of_host, frames, plugs, discs, shots, spills, front_of, machine_outputs}
use Rattle.cmd_outcome.specs.Files.{file_of, report_text, bytes_in}
use Rattle.cmd_outcome.specs.Sound.{sound_bytes}
use Rattle.cmd_outcome.specs.Verdicts.{machine_verdict, both_left}
use Rattle.cmd_ended.specs.Kept.{kept_of, kept_verdict}
use Rattle.law_sessions.specs.OutputOptions.{File, named_file, without_names, NamesAddFiles, KeepCutsTheTrace, ShorterTraceIsBeginning, FromTick, OutputOptions}
use Rattle.law_sessions.proofs.FromLemmas.{from_leaves_out}
use Rattle.law_sessions.proofs.RisingLemmas.{from_is_end}

-- ---- lists of outputs that pass a test

both : (a b : Bool) → (a && b) ≡ true → (a ≡ true) × (b ≡ true)
both true true is = (refl, refl)
both true false is = cc
both false b is = cc

map_same : (test : Output → Bool) (f g : Output → File) → ((o : Output) → test o ≡ true → f o ≡ g o) → (os : List Output)
    → list_all test os ≡ true → map f os ≡ map g os
map_same test f g same [] all = refl
map_same test f g same (o ∷ os) all = let parts = both (test o) (list_all test os) all in rw (same o parts.0, map_same test f g same os parts.1)

module _ (test : Output → Bool) where
  appended : (xs ys : List Output) → list_all test xs ≡ true → list_all test ys ≡ true → list_all test (xs ++ ys) ≡ true
  appended xs ys first others = rw (list_all-append test xs ys, first, others)

  there : {S : Type 0} (o : Output) (s : Option S) → test o ≡ true → list_all test (if_there o s) ≡ true
  there o None is = refl
  there o (Some s) is = rw is

  module _ (disc : (n : ℕ) → test (Disc n) ≡ true) (frame : (n : ℕ) → test (Frame n) ≡ true) (plug : (n : ℕ) → test (Plug n) ≡ true) where
    frames_pass : (n : ℕ) → list_all test (frames n) ≡ true
    frames_pass zero = refl
    frames_pass (suc n) = appended (frames n) (Frame n ∷ []) (frames_pass n) (rw (frame n))

    plugs_pass : (n : ℕ) → list_all test (plugs n) ≡ true
    plugs_pass zero = refl
    plugs_pass (suc n) = appended (plugs n) (Plug n ∷ []) (plugs_pass n) (rw (plug n))

    discs_pass : (s : HostState) → list_all test (discs s) ≡ true
    discs_pass s =
        appended (if_there (Disc 0) (bus_disc 0 s.bus.bus)) (if_there (Disc 1) (bus_disc 1 s.bus.bus))
        (there (Disc 0) (bus_disc 0 s.bus.bus) (disc 0)) (there (Disc 1) (bus_disc 1 s.bus.bus) (disc 1))

-- of a host, if there is one
of_host_pass : (test : Output → Bool) (outputs : HostState → List Output) → ((s : HostState) → list_all test (outputs s) ≡ true)
    → (o : Option HostState) →
    list_all test (of_host outputs o) ≡ true
of_host_pass test outputs pass None = refl
of_host_pass test outputs pass (Some s) = pass s

-- ---- `--wav` and `--save`

-- an output that is neither the sound file nor the session file
abbrev is_unnamed : Output → Bool
is_unnamed Sound = false
is_unnamed Session = false
is_unnamed o = true

front_pass : (l : Left) → list_all is_unnamed (front_of l) ≡ true
front_pass l =
    let disc : (n : ℕ) → is_unnamed (Disc n) ≡ true = λ n. refl in
    let frame : (n : ℕ) → is_unnamed (Frame n) ≡ true = λ n. refl in
    let plug : (n : ℕ) → is_unnamed (Plug n) ≡ true = λ n. refl in
    let to_host : List Output = Report ∷ [] ++ if_there (Memory Host) l.host in
    let to_para : List Output = to_host ++ if_there (Memory Para) l.para in
    let to_discs : List Output = to_para ++ of_host discs l.host in
    let to_shots : List Output = to_discs ++ of_host shots l.host in
    let to_trace : List Output = to_shots ++ if_there Trace l.kept in
    appended is_unnamed to_trace (of_host spills l.host)
    (appended is_unnamed to_shots (if_there Trace l.kept)
    (appended is_unnamed to_discs (of_host shots l.host)
    (appended is_unnamed to_para (of_host discs l.host)
    (appended is_unnamed to_host (if_there (Memory Para) l.para)
    (appended is_unnamed (Report ∷ []) (if_there (Memory Host) l.host) refl (there is_unnamed (Memory Host) l.host refl))
    (there is_unnamed (Memory Para) l.para refl))
    (of_host_pass is_unnamed discs (discs_pass is_unnamed disc frame plug) l.host))
    (of_host_pass is_unnamed shots (λ s. frames_pass is_unnamed disc frame plug (length s.bus.bus.board.shots)) l.host))
    (there is_unnamed Trace l.kept refl))
    (of_host_pass is_unnamed spills (λ s. plugs_pass is_unnamed disc frame plug (length s.bus.bus.plugs)) l.host)

same_unnamed : (l : Left) (o : Output) → is_unnamed o ≡ true → file_of l o ≡ file_of (without_names l) o
unfolding report_text
same_unnamed l Sound is = cc
same_unnamed l Session is = cc
same_unnamed l (Memory Host) is = refl
same_unnamed l (Memory Para) is = refl
same_unnamed l o is = refl

sound_is : (l : Left) (o : Option (List ℕ)) → l.names.wav ≡ o
    → map (file_of l) (if_there Sound o) ≡ named_file o (bytes_in (sound_bytes l.clock l.ticks) l.host)
sound_is l None is = refl
sound_is l (Some name) is = rw is

session_is : (l : Left) (o : Option (List ℕ)) → l.names.save ≡ o → map (file_of l) (if_there Session o) ≡ named_file o (unwrap_or l.saved [])
session_is l None is = refl
session_is l (Some name) is = rw is

names_add : NamesAddFiles
unfolding machine_verdict machine_outputs
names_add l =
    let f : Output → File = file_of l in
    let g : Output → File = file_of (without_names l) in
    let sounds : List Output = if_there Sound l.names.wav in
    let sessions : List Output = if_there Session l.names.save in
    let front : map f (front_of l) ≡ map g (front_of l ++ [] ++ []) =
    map_same is_unnamed f g (same_unnamed l) (front_of l) (front_pass l)
    ∙ ap (map g) (sym (append-nil (front_of l)) ∙ sym (append-nil (front_of l ++ []))) in
    let back : map f (sounds ++ sessions) ≡ named_file l.names.wav (bytes_in (sound_bytes l.clock l.ticks) l.host)
    ++ named_file l.names.save (unwrap_or l.saved []) =
    map-append f sounds sessions ∙ ap₂ (λ (xs ys : List File). xs ++ ys) (sound_is l l.names.wav refl) (session_is l l.names.save refl) in
    ap (λ (fs : List File). record { ending = Done; files = fs; said = [] })
    (ap (map f) (append_assoc (front_of l) sounds sessions) ∙ map-append f (front_of l) (sounds ++ sessions)
    ∙ ap₂ (λ (xs ys : List File). xs ++ ys) front back)

-- ---- `--keep`

-- an output that does not depend on the accesses kept
abbrev is_fixed : Output → Bool
is_fixed Report = false
is_fixed Trace = false
is_fixed Session = false
is_fixed o = true

module _ (clock : Clock) (ticks : ℕ) (out : List ℕ) (w : World HostState ParaState) where
  abbrev left_with : ℕ → Left
  left_with keep = both_left clock ticks (length (accesses w.list)) (one_name out) w.host w.para (kept_of clock (take keep (accesses w.list))) None

  same_fixed : (keep : ℕ) (o : Output) → is_fixed o ≡ true → file_of (left_with keep) o ≡ file_of (left_with 0) o
  same_fixed keep Report is = cc
  same_fixed keep Trace is = cc
  same_fixed keep Session is = cc
  same_fixed keep (Memory Host) is = refl
  same_fixed keep (Memory Para) is = refl
  same_fixed keep o is = refl

  abbrev fronts : List Output
  fronts = Memory Host ∷ Memory Para ∷ (discs w.host ++ shots w.host)

  fixed_front : list_all is_fixed fronts ≡ true
  fixed_front =
      appended is_fixed (discs w.host) (shots w.host) (discs_pass is_fixed (λ n. refl) (λ n. refl) (λ n. refl) w.host)
      (frames_pass is_fixed (λ n. refl) (λ n. refl) (λ n. refl) (length w.host.bus.bus.board.shots))

  fixed_back : list_all is_fixed (spills w.host) ≡ true
  fixed_back = plugs_pass is_fixed (λ n. refl) (λ n. refl) (λ n. refl) (length w.host.bus.bus.plugs)

  files_are : (keep : ℕ) →
      map (file_of (left_with keep)) (Report ∷ Memory Host ∷ Memory Para ∷ (discs w.host ++ shots w.host ++ Trace ∷ [] ++ spills w.host ++ [] ++ []))
      ≡ file_of (left_with keep) Report
      ∷ (map (file_of (left_with 0)) fronts ++ file_of (left_with keep) Trace ∷ map (file_of (left_with 0)) (spills w.host))
  files_are keep =
      let f : Output → File = file_of (left_with keep) in
      let shown : List Output = discs w.host ++ shots w.host in
      let split : shown ++ Trace ∷ [] ++ spills w.host ++ [] ++ [] ≡ shown ++ Trace ∷ spills w.host =
      append-nil (shown ++ Trace ∷ [] ++ spills w.host ++ []) ∙ append-nil (shown ++ Trace ∷ [] ++ spills w.host)
      ∙ append_assoc shown (Trace ∷ []) (spills w.host) in
      ap (λ (os : List Output). map f (Report ∷ Memory Host ∷ Memory Para ∷ os)) split
      ∙ ap (λ (fs : List File). f Report ∷ fs) (map-append f fronts (Trace ∷ spills w.host)
      ∙ ap₂ (λ (xs ys : List File). xs ++ f Trace ∷ ys) (map_same is_fixed f (file_of (left_with 0)) (same_fixed keep) fronts fixed_front)
      (map_same is_fixed f (file_of (left_with 0)) (same_fixed keep) (spills w.host) fixed_back))

keep_cuts : KeepCutsTheTrace
unfolding kept_verdict machine_verdict machine_outputs report_text
keep_cuts clock ticks out w = (
  map (file_of (left_with clock ticks out w 0)) (fronts clock ticks out w),
  map (file_of (left_with clock ticks out w 0)) (spills w.host),
  files_are clock ticks out w,
)

-- ---- a shorter trace

shorter : ShorterTraceIsBeginning
shorter clock entries less more is =
    let sum : more ≡ less + (more - less) = omega (arith, is) in (
      lines_text (take (more - less) (drop less entries)),
      ap (λ n. text_of clock (take n entries)) sum ∙ ap (text_of clock) (take-add less (more - less) entries)
          ∙ ap (λ xs. beginning clock ++ xs) (flat_map-append line_text (take less entries) (take (more - less) (drop less entries)))
          ∙ sym (append_assoc (beginning clock) (lines_text (take less entries)) (lines_text (take (more - less) (drop less entries)))),
    )

from_laws : {S : Type 0} (m : Transitions S) (sights : S → Sight) (part : Part) (side : Side) → IsLawful m → FromTick m sights part side
from_laws m sights part side lawful =
    record { leaves_out = from_leaves_out m sights part side; end = from_is_end m sights part side lawful }

pub output_options : OutputOptions
output_options = record {
  names = names_add;
  keep = keep_cuts;
  shorter = shorter;
  from_host = from_laws host_transitions host_sight Nmos Host host_lawful;
  from_para = from_laws para_transitions para_sight Cmos Para para_lawful;
}
