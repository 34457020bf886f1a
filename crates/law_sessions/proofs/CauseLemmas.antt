-- No cause is lack of memory: the meaning of a text, of a session file and of a source never is.
use Rattle.std.proofs.Common.{◌≡◌, refl, ℕ, zero, suc, ◌+◌, ◌==◌, ◌&&◌, nat_lt, nat_le}
use Rattle.std.proofs.Common.{Bool, true, false, List, [], ◌∷◌, ◌++◌, map, length}
use Rattle.std.proofs.Common.{Option, Some, None, Result, Ok, Err, if◌then◌else◌, codes}
use Rattle.std.specs.Prelude.{slice_range, slice_set, replicate, option_to_list}
use Rattle.std.specs.List.{list_all, list_any}
use Rattle.std.proofs.lemmas.List.Folds.{list_all-append}
use Rattle.beeb_bits.specs.declared.clock.Clock.{Clock}
use Rattle.beeb_bits.specs.declared.Side.{Side}
use Rattle.beeb_bits.specs.declared.Side.TheVariants.{Host, Para}
use Rattle.bus_plug.specs.Plug.{Plug}
use Rattle.digits.specs.Lines.{text_lines}
use Rattle.op_table.specs.declared.names.Part.{Part}
use Rattle.asm_lines.specs.Syntax.{Line, parsed_text}
use Rattle.asm65.specs.declared.AsmError.{AsmError}
use Rattle.asm65.specs.declared.AsmError.TheVariants as asm_errors
use Rattle.asm65.specs.Placement.{Placed, placement, or_else, or_later, first_fault, first_pass, formless, is_among, is_past, is_long, line_names}
use Rattle.asm65.specs.Source.{Program, Labels, labels_of, source, unless_fault, second_fault, second_pass, is_unknown, values_in, statement_out}
use Rattle.key_script.specs.declared.Event.{Event}
use Rattle.key_script.specs.declared.ScriptError.{ScriptError}
use Rattle.key_script.specs.declared.ScriptError.TheVariants as script_errors
use Rattle.key_script.specs.Events.{tick_of, is_shot, shots, last_tick}
use Rattle.key_script.specs.Text.{script, unless, events_behind, events_of}
use Rattle.tube_trace.specs.declared.Entry.{Entry}
use Rattle.tube_trace.specs.declared.TraceError.{TraceError}
use Rattle.tube_trace.specs.declared.TraceError.TheVariants as trace_errors
use Rattle.tube_trace.specs.Line.{entry_of}
use Rattle.tube_trace.specs.Trace.{trace, clock_of, rest_of, at_clock, in_front, entries_behind, lines_read, follows}
use Rattle.tube_trace.specs.FirstWrong.{wrong}
use Rattle.tube_party.specs.declared.Doing.{Doing}
use Rattle.follow.specs.declared.PointsError.{PointsError}
use Rattle.follow.specs.declared.PointsError.TheVariants as points_errors
use Rattle.follow.specs.Points.{points, points_from, points_of_lines}
use Rattle.save_state.specs.declared.StateError.{StateError}
use Rattle.save_state.specs.declared.StateError.TheVariants as state_errors
use Rattle.save_state.specs.declared.parts.Kind.{Kind}
use Rattle.save_state.specs.declared.parts.Kind.TheVariants.{Disc, Keys}
use Rattle.save_state.specs.Fields.{field, value_or_fault, exactly, up_to, number, byte, ◌>>=◌}
use Rattle.save_state.specs.Parts.{length_in, kind_in, body_at, part_at, image_at, disc_at, first_kinds, each_at, parts_at}
use Rattle.save_state.specs.Entries as sessions_entries
use Rattle.save_state.specs.Saved.{Session}
use Rattle.save_state.specs.File as sessions
use Rattle.save_state.specs.File.{clock_in, header_at, list_at}
use Rattle.beeb_files.specs.Files.{Files, bytes_of}
use Rattle.cmd_words.specs.declared.keys.InputKind.{InputKind}
use Rattle.cmd_words.specs.Command.{Command, check, asm, dis, replay, solo, run, resume, follow, gen}
use Rattle.cmd_words.specs.Reads.{reads}
use Rattle.cmd_stages.specs.Plan.{Want}
use Rattle.cmd_status.specs.declared.status.Status.{Status}
use Rattle.cmd_status.specs.declared.status.Status.TheVariants.{NoMemory, TooLong, BadImage, BadTrace}
use Rattle.cmd_status.specs.declared.status.Which.{Which}
use Rattle.cmd_status.specs.declared.status.Which.TheVariants.{Image}
use Rattle.cmd_machines.specs.Inputs.{Inputs, inputs_of}
use Rattle.cmd_machines.specs.Setup.{Setup, setup_of}
use Rattle.cmd_machines.specs.Lengths.{Sized, host_images, para_images, both_images}
use Rattle.cmd_machines.specs.Sessions.{setup_in, inputs_in}
use Rattle.para_mach.specs.State as para
use Rattle.cmd_outcome.specs.Trace.{is_same}
use Rattle.cmd_session.specs.Session.{place_of}
use Rattle.law_sessions.specs.Refusals.{first_of, unread_by, unread, misfit, bad_trace, other_clock}
use Rattle.law_sessions.specs.Refusals.{bad_script_by, bad_script, bad_state, bad_source, bad_points_by, bad_points}
use Rattle.law_sessions.specs.Refusals.{wrong_by, differs_at, held, host_at, entries_in, trace_causes, entry_causes}
use Rattle.law_sessions.specs.Refusals.{made_causes, replayed_causes, pair_causes, session_causes, read_causes, causes}

-- a cause that does not hold, or that is no lack of memory
abbrev pub is_named : Option Status → Bool
is_named (Some NoMemory) = false
is_named cause = true

abbrev pub are_named : List (Option Status) → Bool
are_named causes = list_all is_named causes

-- the first cause is none
pub first_named : (list : List (Option Status)) → are_named list ≡ true → first_of list ≡ NoMemory → ⊥
first_named [] named is = cc
first_named (None ∷ list) named is = first_named list named is
first_named (Some NoMemory ∷ list) named is = cc
first_named (Some status ∷ list) named is = cc

pub named_more : (xs ys : List (Option Status)) → are_named xs ≡ true → are_named ys ≡ true → are_named (xs ++ ys) ≡ true
named_more xs ys first others = rw (list_all-append is_named xs ys, first, others)

-- ---- files and images

long_named : (b : Bool) (name : List ℕ) → is_named (if b then Some (TooLong name) else None) ≡ true
long_named true name = refl
long_named false name = refl

unread_named : (name : List ℕ) (cap : ℕ) (o : Option (List ℕ)) → is_named (unread_by name cap o) ≡ true
unread_named name cap None = refl
unread_named name cap (Some bytes) = long_named (nat_lt cap (length bytes)) name

pub all_unread_named : (files : Files) (ws : List (Want InputKind)) → are_named (map (unread files) ws) ≡ true
all_unread_named files [] = refl
all_unread_named files (w ∷ ws) = rw (unread_named w.1 w.2 (bytes_of files w.1), all_unread_named files ws)

misfit_named : (b : Bool) (which : Which) (len : ℕ) → is_named (if b then None else Some (BadImage which len)) ≡ true
misfit_named true which len = refl
misfit_named false which len = refl

pub all_misfits_named : (images : List Sized) → are_named (map misfit images) ≡ true
all_misfits_named [] = refl
all_misfits_named (s ∷ images) = rw (misfit_named s.fits s.place s.len, all_misfits_named images)

-- ---- a trace

module _ (clock : Clock) where
  abbrev named_entries : Result (List Entry) TraceError → Bool
  named_entries r = is_named (bad_trace (at_clock clock r))

  by_order : (b : Bool) (line : ℕ) (front : List Entry) (r : Result (List Entry) TraceError) → named_entries r ≡ true →
      named_entries (if b then in_front front r else Err (trace_errors.BadOrder line)) ≡ true
  by_order false line front r named = refl
  by_order true line front (Ok entries) named = refl
  by_order true line front (Err e) named = named

  lines_named : (line : ℕ) (last : Option Entry) (lines : List (Option Entry)) → named_entries (entries_behind line last lines) ≡ true
  lines_named line last [] = refl
  lines_named line last (None ∷ lines) = refl
  lines_named line last (Some e ∷ lines) =
      by_order (follows last e) line (e ∷ []) (entries_behind (line + 1) (Some e) lines) (lines_named (line + 1) (Some e) lines)

pub trace_named : (bytes : List ℕ) → is_named (bad_trace (trace bytes)) ≡ true
unfolding trace lines_read
trace_named bytes = lines_named (clock_of bytes) 1 None (map entry_of (text_lines (rest_of bytes)))

-- ---- a key script

by_fault : (b c : Bool) (line : ℕ) (r : Result (List Event) ScriptError) → is_named (bad_script_by r) ≡ true →
    is_named (bad_script_by (unless (if b then Some (script_errors.BadOrder line) else if c then Some (script_errors.TooManyShots line) else None) r)) ≡ true
by_fault true c line r named = refl
by_fault false true line r named = refl
by_fault false false line r named = named

events_named : (before : List Event) (lines : List (Option Event)) → is_named (bad_script_by (events_behind before lines)) ≡ true
events_named before [] = refl
events_named before (None ∷ lines) = refl
events_named before (Some e ∷ lines) =
    by_fault (nat_lt (tick_of e) (last_tick before)) (is_shot e && shots before == 256) (length before + 1) (events_behind (before ++ e ∷ []) lines)
    (events_named (before ++ e ∷ []) lines)

pub script_named : (keys : Option (List ℕ)) → is_named (bad_script keys) ≡ true
unfolding script
script_named None = refl
script_named (Some text) = events_named [] (events_of text)

-- ---- a file of addresses

by_rise : (b : Bool) (line : ℕ) (r : Result (List Bool) PointsError) → is_named (bad_points_by r) ≡ true →
    is_named (bad_points_by (if b then Err (points_errors.BadOrder line) else r)) ≡ true
by_rise true line r named = refl
by_rise false line r named = named

lines_rise_named : (line least : ℕ) (marked : List Bool) (lines : List (Option ℕ))
    → is_named (bad_points_by (points_from line least marked lines)) ≡ true
lines_rise_named line least marked [] = refl
lines_rise_named line least marked (None ∷ lines) = refl
lines_rise_named line least marked (Some at ∷ lines) =
    by_rise (nat_lt at least) line (points_from (line + 1) (at + 1) (slice_set marked at true) lines)
    (lines_rise_named (line + 1) (at + 1) (slice_set marked at true) lines)

pub points_named : (text : Option (List ℕ)) → is_named (bad_points text) ≡ true
unfolding points
points_named None = refl
points_named (Some text) = lines_rise_named 1 0 (replicate 65536 false) (points_of_lines text)

-- ---- a source text

abbrev is_clear : Option AsmError → Bool
is_clear (Some asm_errors.NoMemory) = false
is_clear o = true

by_test : (b : Bool) (e : AsmError) (o : Option AsmError) → is_clear (Some e) ≡ true → is_clear o ≡ true → is_clear (or_else b e o) ≡ true
by_test true e o is other = is
by_test false e o is other = other

by_line : (o later : Option AsmError) → is_clear o ≡ true → is_clear later ≡ true → is_clear (or_later o later) ≡ true
by_line None later is other = other
by_line (Some e) later is other = is

module _ (part : Part) where
  first_line_clear : (row : ℕ) (names : List (List ℕ)) (at : ℕ) (line : Option Line) → is_clear (first_fault part row names at line) ≡ true
  first_line_clear row names at None = refl
  first_line_clear row names at (Some line) =
      by_test (formless part line.statement) (asm_errors.NoSuchForm row) _ refl
      (by_test (list_any (is_among names) (option_to_list line.label)) (asm_errors.Repeated row) _ refl
      (by_test (is_past at line.statement) (asm_errors.OutOfRange row) _ refl
      (by_test (is_long part at line.statement) (asm_errors.TooLong row) None refl refl)))

  first_clear : (row : ℕ) (names : List (List ℕ)) (placed : List Placed) → is_clear (first_pass part row names placed) ≡ true
  first_clear row names [] = refl
  first_clear row names (p ∷ placed) =
      by_line (first_fault part row names p.address p.line) (first_pass part (row + 1) (names ++ line_names p.line) placed)
      (first_line_clear row names p.address p.line) (first_clear (row + 1) (names ++ line_names p.line) placed)

  second_line_clear : (row : ℕ) (labels : Labels) (at : ℕ) (line : Option Line) → is_clear (second_fault part row labels at line) ≡ true
  second_line_clear row labels at None = refl
  second_line_clear row labels at (Some line) =
      by_test (list_any (is_unknown labels) (values_in line.statement)) (asm_errors.UnknownLabel row) _ refl
      (by_test (statement_out part labels at line.statement) (asm_errors.OutOfRange row) None refl refl)

  second_clear : (row : ℕ) (labels : Labels) (placed : List Placed) → is_clear (second_pass part row labels placed) ≡ true
  second_clear row labels [] = refl
  second_clear row labels (p ∷ placed) =
      by_line (second_fault part row labels p.address p.line) (second_pass part (row + 1) labels placed)
      (second_line_clear row labels p.address p.line) (second_clear (row + 1) labels placed)

clear_named : (o : Option AsmError) (r : Result Program AsmError) → is_clear o ≡ true → is_named (bad_source r) ≡ true
    → is_named (bad_source (unless_fault o r)) ≡ true
clear_named None r clear named = named
clear_named (Some asm_errors.NoMemory) r clear named = cc
clear_named (Some e) r clear named = refl

pub source_named : (part : Part) (text : List ℕ) → is_named (bad_source (source part text)) ≡ true
unfolding source
source_named part text =
    let lines : List (Option Line) = parsed_text text in
    let placed : List Placed = placement part lines in
    clear_named (first_pass part 1 [] placed) _ (first_clear part 1 [] placed)
    (clear_named (second_pass part 1 (labels_of placed) placed) _ (second_clear part 1 (labels_of placed) placed) refl)

-- ---- a session file

-- the meaning of fields is no lack of memory
is_field : {A : Type 0} → Result A StateError → Bool
is_field (Err state_errors.NoMemory) = false
is_field r = true

ok_is : {A : Type 0} (x : A) → is_field (Ok x) ≡ true
unfolding is_field
ok_is x = refl

fault_is : (A : Type 0) (at : ℕ) → is_field {A = A} (Err (state_errors.BadField at)) ≡ true
unfolding is_field
fault_is A at = refl

module _ {A B : Type 0} where
  and_then : (r : Result A StateError) (more : A → Result B StateError) → is_field r ≡ true → ((x : A) → is_field (more x) ≡ true)
      → is_field (r >>= more) ≡ true
  unfolding is_field
  and_then (Ok x) more is others = others x
  and_then (Err (state_errors.BadField at)) more is others = refl
  and_then (Err state_errors.NoMemory) more is others = cc

value_is : {A : Type 0} (at next : ℕ) (o : Option A) → is_field (value_or_fault at next o) ≡ true
value_is at next None = fault_is _ at
value_is at next (Some a) = ok_is (a, next)

within_file : {A : Type 0} (b : Bool) (at next len : ℕ) (o : Option A)
    → is_field (if b then value_or_fault at next o else Err (state_errors.BadField len)) ≡ true
within_file true at next len o = value_is at next o
within_file false at next len o = fault_is _ len

one_field : {A : Type 0} (size : ℕ) (meaning : List ℕ → Option A) (bytes : List ℕ) (at : ℕ) → is_field (field size meaning bytes at) ≡ true
one_field size meaning bytes at = within_file (nat_le (at + size) (length bytes)) at (at + size) (length bytes) (meaning (slice_range bytes at (at + size)))

header_named : (bytes : List ℕ) (at : ℕ) → is_field (header_at bytes at) ≡ true
unfolding header_at
header_named bytes at =
    and_then _ _ (one_field 4 (exactly (codes "BTUB")) bytes at) (λ name.
    and_then _ _ (one_field 1 (exactly (1 ∷ [])) bytes name.1) (λ form.
    and_then _ _ (one_field 1 (λ b. clock_in (byte b)) bytes form.1) (λ clock.
    and_then _ _ (one_field 4 (λ b. up_to 1073741824 (number b)) bytes clock.1) (λ ticks.
    and_then _ _ (one_field 1 (λ b. up_to 8 (byte b)) bytes ticks.1) (λ plugs. ok_is _)))))

body_named : (len : Option ℕ) (bytes : List ℕ) (at : ℕ) → is_field (body_at len bytes at) ≡ true
body_named None bytes at = ok_is _
body_named (Some len) bytes at = and_then _ _ (one_field len Some bytes at) (λ body. ok_is _)

part_named : (kind : Kind) (bytes : List ℕ) (at : ℕ) → is_field (part_at kind bytes at) ≡ true
unfolding part_at
part_named kind bytes at = and_then _ _ (one_field 4 (length_in kind) bytes at) (λ len. body_named len.0 bytes len.1)

image_named : (len : Option ℕ) (bytes : List ℕ) (at : ℕ) → is_field (image_at len bytes at) ≡ true
image_named None bytes at = ok_is _
image_named (Some len) bytes at = and_then _ _ (one_field 1 (kind_in len) bytes at) (λ dsd. and_then _ _ (one_field len Some bytes dsd.1) (λ body. ok_is _))

disc_named : (bytes : List ℕ) (at : ℕ) → is_field (disc_at bytes at) ≡ true
unfolding disc_at
disc_named bytes at = and_then _ _ (one_field 4 (length_in Disc) bytes at) (λ len. image_named len.0 bytes len.1)

each_named : (kinds : List Kind) (bytes : List ℕ) (at : ℕ) → is_field (each_at kinds bytes at) ≡ true
unfolding each_at
each_named [] bytes at = ok_is _
each_named (kind ∷ kinds) bytes at = and_then _ _ (part_named kind bytes at) (λ part. and_then _ _ (each_named kinds bytes part.1) (λ others. ok_is _))

parts_named : (bytes : List ℕ) (at : ℕ) → is_field (parts_at bytes at) ≡ true
unfolding parts_at
parts_named bytes at =
    and_then _ _ (each_named first_kinds bytes at) (λ first.
    and_then _ _ (disc_named bytes first.1) (λ disc0.
    and_then _ _ (disc_named bytes disc0.1) (λ disc1.
    and_then _ _ (part_named Keys bytes disc1.1) (λ keys. ok_is _))))

entries_named : (ticks count : ℕ) (last : Option Entry) (bytes : List ℕ) (at : ℕ)
    → is_field (sessions_entries.entries_at ticks count last bytes at) ≡ true
unfolding sessions_entries.entries_at
entries_named ticks zero last bytes at = ok_is _
entries_named ticks (suc count) last bytes at =
    and_then _ _ (one_field 7 (sessions_entries.next_entry ticks last) bytes at) (λ first.
    and_then _ _ (entries_named ticks count (Some first.0) bytes first.1) (λ others. ok_is _))

list_named : (ticks : ℕ) (bytes : List ℕ) (at : ℕ) → is_field (list_at ticks bytes at) ≡ true
unfolding list_at
list_named ticks bytes at = and_then _ _ (one_field 4 (λ b. up_to 4194304 (number b)) bytes at) (λ count. entries_named ticks count.0 None bytes count.1)

at_end : {A : Type 0} (b : Bool) (x : A) (at : ℕ) → is_field (if b then Ok x else Err (state_errors.BadField at)) ≡ true
at_end true x at = ok_is x
at_end false x at = fault_is _ at

file_is : (bytes : List ℕ) → is_field (sessions.file bytes) ≡ true
unfolding sessions.file
file_is bytes =
    and_then _ _ (header_named bytes 0) (λ head.
    and_then _ _ (parts_named bytes head.1) (λ parts.
    and_then _ _ (list_named head.0.ticks bytes parts.1) (λ list. at_end (length bytes == list.1) _ list.1)))

state_by : (r : Result Session StateError) → is_field r ≡ true → is_named (bad_state r) ≡ true
unfolding is_field
state_by (Ok s) is = refl
state_by (Err (state_errors.BadField at)) is = refl
state_by (Err state_errors.NoMemory) is = cc

-- ---- the causes of a command

wrong_named : (w : Option (ℕ × ℕ)) → is_named (wrong_by w) ≡ true
wrong_named None = refl
wrong_named (Some w) = refl

differs_named : (place : Option (ℕ × Option Doing)) → is_named (differs_at place) ≡ true
differs_named None = refl
differs_named (Some place) = refl

clock_by : (b : Bool) → is_named (if b then None else Some (BadTrace 1 4)) ≡ true
clock_by true = refl
clock_by false = refl

clock_named : (clock : Clock) (t : Result (Clock × List Entry) TraceError) → is_named (other_clock clock t) ≡ true
clock_named clock (Ok t) = clock_by (is_same clock t.0)
clock_named clock (Err e) = refl

traces_named : (tube : Bool) (clock : Clock) (bytes : List ℕ) → are_named (trace_causes tube clock bytes) ≡ true
traces_named true clock bytes = rw (trace_named bytes, clock_named clock (trace bytes))
traces_named false clock [] = refl
traces_named false clock (b ∷ bytes) = refl

entry_named : (entries : List Entry) (place : Option (ℕ × Option Doing)) → are_named (entry_causes entries place) ≡ true
entry_named entries place = rw (wrong_named (wrong entries), differs_named place)

made_named : (set : Setup) (side : Side) (i : Inputs) (others : List (Option Status)) → are_named others ≡ true
    → are_named (made_causes set side i others) ≡ true
made_named set Host i others named =
    let from_script : List (Option Status) = bad_script i.keys ∷ others in
    named_more (map misfit (host_images set.kinds i)) (trace_causes set.tube set.clock i.trace ++ from_script) (all_misfits_named (host_images set.kinds i))
    (named_more (trace_causes set.tube set.clock i.trace) from_script (traces_named set.tube set.clock i.trace) (rw (script_named i.keys, named)))
made_named set Para i others named =
    named_more (map misfit (para_images i)) (trace_causes true set.clock i.trace ++ others) (all_misfits_named (para_images i))
    (named_more (trace_causes true set.clock i.trace) others (traces_named true set.clock i.trace) named)

replayed_named : (set : Setup) (side : Side) (ticks : ℕ) (i : Inputs) → are_named (replayed_causes set side ticks i) ≡ true
replayed_named set Host ticks i = entry_named _ _
replayed_named set Para ticks i = entry_named _ _

pair_named : (set : Setup) (i : Inputs) → are_named (pair_causes set i) ≡ true
pair_named set i =
    named_more (map misfit (both_images set.kinds i)) (bad_script i.keys ∷ []) (all_misfits_named (both_images set.kinds i)) (rw (script_named i.keys))

session_named : (plugs : List Plug) (ticks : ℕ) (f : Result Session StateError) → are_named (session_causes plugs ticks f) ≡ true
session_named plugs ticks (Err e) = refl
session_named plugs ticks (Ok s) =
    let images : List Sized = both_images (setup_in s plugs).kinds (inputs_in s) in
    let place : Option (ℕ × Option Doing) =
    place_of s ticks (host_at (setup_in s plugs) (inputs_in s), para.power_on s.clock (inputs_in s).tube) in
    named_more (map misfit images) (bad_script (inputs_in s).keys ∷ wrong_by (wrong s.entries) ∷ differs_at place ∷ [])
    (all_misfits_named images) (rw (script_named (inputs_in s).keys, wrong_named (wrong s.entries), differs_named _))

past_by : (b : Bool) (n : ℕ) → is_named (if b then Some (BadImage Image n) else None) ≡ true
past_by true n = refl
past_by false n = refl

read_named : (plugs : List Plug) (c : Command) (i : Inputs) → are_named (read_causes plugs c i) ≡ true
read_named plugs (check name) i = rw (trace_named i.trace, wrong_named (wrong (entries_in (trace i.trace))))
read_named plugs (asm part text out) i = rw (source_named part i.source)
read_named plugs (dis part image origin out) i = rw (past_by (nat_lt 65536 (origin + length i.image)) (length i.image))
read_named plugs (replay side name ticks out given) i =
    made_named (setup_of given plugs) side i (replayed_causes (setup_of given plugs) side ticks i) (replayed_named (setup_of given plugs) side ticks i)
read_named plugs (solo ticks out keep given) i = pair_named (setup_of given plugs) i
read_named plugs (run ticks out keep given) i = pair_named (setup_of given plugs) i
read_named plugs (resume state ticks out keep given) i =
    rw (state_by (sessions.file i.state) (file_is i.state), session_named plugs ticks (sessions.file i.state))
read_named plugs (follow side name ticks out given) i =
    made_named (setup_of given plugs) side i (bad_points i.points ∷ replayed_causes (setup_of given plugs) side ticks i)
    (rw (points_named i.points, replayed_named (setup_of given plugs) side ticks i))
read_named plugs (gen seed) i = refl

-- no cause of any words is lack of memory
pub causes_named : (plugs : List Plug) (files : Files) (spelt : Option Command) → are_named (causes plugs files spelt) ≡ true
causes_named plugs files None = refl
causes_named plugs files (Some c) =
    named_more (map (unread files) (reads c)) (read_causes plugs c (inputs_of (held files (reads c)))) (all_unread_named files (reads c))
    (read_named plugs c (inputs_of (held files (reads c))))
