-- The status of a command is that of the first of its causes that holds.
use Rattle.std.proofs.Common.{◌≡◌, ◌∙◌, sym, refl, ap, append-nil, ℕ, ◌+◌, nat_lt, Bool, true, false, List, [], ◌∷◌, ◌++◌, map, length, Option, Some, None, Result, Ok}
use Rattle.std.proofs.Common.{Err, Contains, inl, inr, ◌⊎◌, if◌then◌else◌}
use Rattle.std.specs.Prelude.{unwrap_or, IsSomeAnd}
use Rattle.beeb_bits.specs.declared.clock.Clock.{Clock}
use Rattle.beeb_bits.specs.declared.Side.{Side}
use Rattle.beeb_bits.specs.declared.Side.TheVariants.{Host, Para}
use Rattle.beeb_files.specs.Files.{Files, bytes_of}
use Rattle.beeb_files.specs.Counts.{Rose, Stayed}
use Rattle.asm65.specs.declared.AsmError.{AsmError}
use Rattle.asm65.specs.declared.AsmError.TheVariants as asm_errors
use Rattle.asm65.specs.Source.{Program, source}
use Rattle.dis65.specs.Listing.{decode}
use Rattle.bus_plug.specs.Plug.{Plug}
use Rattle.key_script.specs.declared.Event.{Event}
use Rattle.key_script.specs.declared.ScriptError.{ScriptError}
use Rattle.key_script.specs.declared.ScriptError.TheVariants as script_errors
use Rattle.key_script.specs.Text.{script}
use Rattle.op_table.specs.declared.names.Part.TheVariants.{Nmos, Cmos}
use Rattle.tube_trace.specs.declared.Entry.{Entry}
use Rattle.tube_trace.specs.declared.TraceError.{TraceError}
use Rattle.tube_trace.specs.declared.TraceError.TheVariants as trace_errors
use Rattle.tube_trace.specs.Trace.{trace, lines_read}
use Rattle.tube_trace.specs.FirstWrong.{wrong}
use Rattle.tube_party.specs.declared.Doing.{Doing}
use Rattle.tube_party.specs.Reference.{reference}
use Rattle.follow.specs.declared.PointsError.{PointsError}
use Rattle.follow.specs.declared.PointsError.TheVariants as points_errors
use Rattle.follow.specs.Points.{points}
use Rattle.follow.specs.Machines.{host_sight, para_sight}
use Rattle.follow.specs.Listing.{replay_listing}
use Rattle.host_mach.specs.State as host
use Rattle.host_mach.specs.Step.{host_transitions}
use Rattle.para_mach.specs.State as para
use Rattle.para_mach.specs.Step.{para_transitions}
use Rattle.save_state.specs.declared.StateError.{StateError}
use Rattle.save_state.specs.declared.StateError.TheVariants as state_errors
use Rattle.save_state.specs.Saved.{Session}
use Rattle.save_state.specs.File as sessions
use Rattle.cmd_words.specs.declared.keys.InputKind.{InputKind}
use Rattle.cmd_words.specs.Command.{Command, check, asm, dis, replay, solo, run, resume, follow, gen}
use Rattle.cmd_words.specs.Reads.{reads}
use Rattle.cmd_stages.specs.declared.stop.Stop.{Stop}
use Rattle.cmd_stages.specs.declared.stop.Stop.TheVariants as stops
use Rattle.cmd_stages.specs.declared.stop.Refusal.{Refusal}
use Rattle.cmd_stages.specs.declared.stop.Refusal.TheVariants as refusals
use Rattle.cmd_stages.specs.Plan as plans
use Rattle.cmd_stages.specs.Plan.{Verdict, Want, Plan, read_all, within, verdict, or_stop, or_refusal, ComesTo, ◌>>=◌}
use Rattle.cmd_stages.specs.Promise.{World, CarriesOut, EndsAs, IsReached, read_names, names, ending_of}
use Rattle.cmd_stages.proofs.EndLemmas.{rose_not_stayed, thread_not_stayed}
use Rattle.cmd_status.specs.declared.status.Status.{Status}
use Rattle.cmd_status.specs.declared.status.Status.TheVariants.{Done, Usage, ReadFault, TooLong, BadImage, BadScript, BadPoints, BadTrace}
use Rattle.cmd_status.specs.declared.status.Status.TheVariants.{BadSource, BadState, WriteFault, NoThread, NoMemory, Wrong, Differs}
use Rattle.cmd_status.specs.declared.status.Ending.{Ending}
use Rattle.cmd_status.specs.declared.status.Ending.TheVariants as endings
use Rattle.cmd_status.specs.declared.status.Cause.{Cause}
use Rattle.cmd_status.specs.declared.status.Cause.TheVariants as causes_of
use Rattle.cmd_status.specs.declared.status.Which.TheVariants as places
use Rattle.cmd_status.specs.Status.{number, end_of}
use Rattle.cmd_machines.specs.Inputs.{Inputs, inputs_of}
use Rattle.cmd_machines.specs.Setup.{Setup, setup_of}
use Rattle.cmd_machines.specs.Machines.{machines_of}
use Rattle.cmd_machines.specs.Script.{script_refusal, script_of}
use Rattle.cmd_machines.specs.Lengths.{Sized, host_images, para_images, both_images, first_misfit, unless_caused, if_fit, LengthsComeFirst}
use Rattle.cmd_machines.specs.Sessions.{begun_if, setup_in, inputs_in}
use Rattle.cmd_outcome.specs.Names.{Names, names_of}
use Rattle.cmd_outcome.specs.Trace.{refusal_of, trace_of, is_same, if_same, entries_of}
use Rattle.cmd_outcome.specs.Verdicts.{machine_verdict, file_verdict, host_left, para_left}
use Rattle.cmd_ended.specs.Kept.{kept_verdict}
use Rattle.cmd_replayed.specs.Made as machines
use Rattle.cmd_replayed.specs.Made.{host_of, para_of}
use Rattle.cmd_replayed.specs.Replay.{verdict_of_place, unless_wrong}
use Rattle.cmd_replay.specs.Replay.{side_count, replayed, replay_after}
use Rattle.cmd_follow.specs.Follow.{listed_verdict, listed_by, follow_after, points_read, with_points, chosen_with}
use Rattle.demo_gen.specs.Demo.{HasFittingImages}
use Rattle.demo_gen.proofs.Fitting as fitting
use Rattle.cmd_pair.specs.Gen.{gen_after, gen_setup, gen_ticks, gen_verdict, pair_inputs}
use Rattle.cmd_pair.specs.Solo.{solo_after}
use Rattle.cmd_session.specs.Session.{state_of, state_refusal, session_ended, session_after}
use Rattle.cmd_tools.specs.Asm as tools
use Rattle.cmd_tools.specs.Check.{check_after}
use Rattle.cmd_tools.specs.Check as tools_check
use Rattle.follow.specs.declared.Choice.{Choice}
use Rattle.cmd_top.specs.Plans.{plan, after, choice_of}
use Rattle.cmd_top.specs.Commands.{EndsWith}
use Rattle.law_sessions.proofs.CauseLemmas.{first_named, causes_named}
use Rattle.law_sessions.specs.Refusals.{first_of, unread_by, unread, misfit, bad_trace, other_clock, bad_script_by, bad_script, bad_state, bad_source, wrong_by}
use Rattle.law_sessions.specs.Refusals.{differs_at, held, entries_in, events_by, events_in, host_at, trace_causes}
use Rattle.law_sessions.specs.Refusals.{made_causes, replay_causes, follow_causes, bad_points_by, bad_points, pair_causes}
use Rattle.law_sessions.specs.Refusals.{session_causes, read_causes, causes, NoFault, ComesToWriting, RefusesInOrder, RefusalsInOrder}

-- a command with this result reports the first of these causes
abbrev Tells : Result (Verdict Ending) (Stop Cause) → List (Option Status) → Type 0
Tells r list = end_of (first_of list) ≡ Some (ending_of r)

-- the same before any reading
abbrev Says : Result (Verdict Ending) (Refusal Cause) → List (Option Status) → Type 0
Says r list = Tells (or_stop r) list

-- ---- reading

by_length : (b : Bool) (slot : InputKind) (name bytes : List ℕ) (rest : Result (plans.Inputs InputKind) (Stop Cause)) (k : plans.Inputs InputKind → Result (Verdict Ending) (Stop Cause))
    (list : List (Option Status)) → Tells (rest >>= λ more. k ((slot, bytes) ∷ more)) list →
    Tells (((if b then Err (stops.TooLong name) else Ok bytes) >>= λ (x : List ℕ). rest >>= λ more. Ok ((slot, x) ∷ more)) >>= k) ((if b then Some (TooLong name) else None) ∷ list)
by_length true slot name bytes rest k list tells = refl
by_length false slot name bytes (Ok more) k list tells = tells
by_length false slot name bytes (Err stop) k list tells = tells

one_read : (w : Want InputKind) (o : Option (List ℕ)) (rest : Result (plans.Inputs InputKind) (Stop Cause)) (k : plans.Inputs InputKind → Result (Verdict Ending) (Stop Cause))
    (list : List (Option Status)) → Tells (rest >>= λ more. k ((w.0, unwrap_or o []) ∷ more)) list →
    Tells ((within w.1 w.2 o >>= λ bytes. rest >>= λ more. Ok ((w.0, bytes) ∷ more)) >>= k) (unread_by w.1 w.2 o ∷ list)
one_read w None rest k list tells = refl
one_read w (Some bytes) rest k list tells = by_length (nat_lt w.2 (length bytes)) w.0 w.1 bytes rest k list tells

all_read : (files : Files) (ws : List (Want InputKind)) (k : plans.Inputs InputKind → Result (Verdict Ending) (Stop Cause)) (list : List (Option Status)) →
    Tells (k (held files ws)) list → Tells (read_all files ws >>= k) (map (unread files) ws ++ list)
all_read files [] k list tells = tells
all_read files (w ∷ ws) k list tells =
    one_read w (bytes_of files w.1) (read_all files ws) k (map (unread files) ws ++ list)
    (all_read files ws (λ more. k ((w.0, unwrap_or (bytes_of files w.1) []) ∷ more)) list tells)

-- ---- lengths

module _ (next : Result (Verdict Ending) (Refusal Cause)) (list : List (Option Status)) where
  by_fit : (b : Bool) (s : Sized) (m : Option Cause) (more : List (Option Status)) → Says (unless_caused m next) more →
      Says (unless_caused (if b then m else Some (causes_of.BadImage s.place s.len)) next) ((if b then None else Some (BadImage s.place s.len)) ∷ more)
  by_fit true s m more says = says
  by_fit false s m more says = refl

  all_fit : (images : List Sized) → Says next list → Says (if_fit images next) (map misfit images ++ list)
  all_fit [] says = says
  all_fit (s ∷ images) says = by_fit s.fits s (first_misfit images) (map misfit images ++ list) (all_fit images says)

-- the rest, if all lengths fit
fit_bound : {A B : Type 0} (m : Option Cause) (next : Result A (Refusal Cause)) (g : A → Result B (Refusal Cause)) → (unless_caused m next >>= g) ≡ unless_caused m (next >>= g)
fit_bound None next g = refl
fit_bound (Some cause) next g = refl

-- ---- traces and scripts

module _ (clock : Clock) (g : List Entry → Result (Verdict Ending) (Refusal Cause)) (list : List (Option Status)) where
  by_clock : (b : Bool) (entries : List Entry) → Says (g entries) list →
      Says ((if b then Ok entries else Err (refusals.Cause (causes_of.BadTrace 1 4))) >>= g) ((if b then None else Some (BadTrace 1 4)) ∷ list)
  by_clock true entries says = says
  by_clock false entries says = refl

  traced_by : (t : Result (Clock × List Entry) TraceError) → Says (g (entries_in t)) list →
      Says ((or_refusal refusal_of t >>= if_same clock) >>= g) (bad_trace t ∷ other_clock clock t ∷ list)
  traced_by (Ok t) says = by_clock (is_same clock t.0) t.1 says
  traced_by (Err (trace_errors.BadLine line)) says = refl
  traced_by t says = refl

  para_trace : (bytes : List ℕ) → Says (g (entries_in (trace bytes))) list → Says (entries_of clock bytes >>= g) (trace_causes true clock bytes ++ list)
  unfolding entries_of trace_of
  para_trace bytes says = traced_by (trace bytes) says

  -- the empty file has no entries
  host_trace : (tube : Bool) (bytes : List ℕ) → Says (g (entries_in (trace bytes))) list → Says (machines.entries_at tube clock bytes >>= g) (trace_causes tube clock bytes ++ list)
  unfolding machines.entries_at trace lines_read
  host_trace true bytes says = para_trace bytes says
  host_trace false [] says = says
  host_trace false (b ∷ bytes) says = refl

module _ (g : List Event → Result (Verdict Ending) (Refusal Cause)) (list : List (Option Status)) where
  scripted_by : (s : Result (List Event) ScriptError) → Says (g (events_by s)) list → Says (or_refusal script_refusal s >>= g) (bad_script_by s ∷ list)
  scripted_by (Ok events) says = says
  scripted_by (Err (script_errors.BadLine line)) says = refl
  scripted_by s says = refl

  scripted : (keys : Option (List ℕ)) → Says (g (events_in keys)) list → Says (script_of keys >>= g) (bad_script keys ∷ list)
  unfolding script_of
  scripted None says = says
  scripted (Some text) says = scripted_by (script text) says

-- ---- the addresses of a file

module _ (choice : Choice) (g : Choice → Result (Verdict Ending) (Refusal Cause)) (list : List (Option Status)) (says : (chosen : Choice) → Says (g chosen) list) where
  pointed_by : (p : Result (List Bool) PointsError) → Says ((points_read p >>= λ marked. Ok (with_points choice marked)) >>= g) (bad_points_by p ∷ list)
  pointed_by (Ok marked) = says (with_points choice (Some marked))
  pointed_by (Err (points_errors.BadLine line)) = refl
  pointed_by p = refl

  pointed : (bytes : Option (List ℕ)) → Says (chosen_with choice bytes >>= g) (bad_points bytes ∷ list)
  unfolding chosen_with
  pointed None = says (with_points choice None)
  pointed (Some text) = pointed_by (points text)

-- ---- a wrong answer and a difference

ends_by : {S : Type 0} (w : Option (ℕ × ℕ)) (place : Option (ℕ × Option Doing)) (done : S → Verdict Ending) (s : S) → (done s).ending ≡ endings.Done →
    Says (Ok (unless_wrong w (verdict_of_place done s place))) (wrong_by w ∷ differs_at place ∷ [])
ends_by (Some w) place done s is = refl
ends_by None (Some place) done s is = refl
ends_by None None done s is = rw is

-- ---- a host against a trace

bound : {A B C : Type 0} (r : Result A (Refusal Cause)) (f : A → Result B (Refusal Cause)) (g : B → Result C (Refusal Cause)) →
    ((r >>= f) >>= g) ≡ (r >>= λ x. f x >>= g)
bound (Ok x) f g = refl
bound (Err e) f g = refl

module _ (lengths : LengthsComeFirst) where
  -- the host against its entries, before any further result
  host_told : (set : Setup) (i : Inputs) (last : List (Option Status)) (g : List Entry × host.HostState → Result (Verdict Ending) (Refusal Cause)) →
      Says (g (entries_in (trace i.trace), host.with_tube set.tube (host_at set i))) last → Says (host_of set i >>= g) (made_causes set Host i last)
  unfolding host_of
  host_told set i last g says =
      simp (bound, lengths.host)
      (all_fit _ (trace_causes set.tube set.clock i.trace ++ bad_script i.keys ∷ last) (host_images set.kinds i)
      (host_trace set.clock _ (bad_script i.keys ∷ last) set.tube i.trace (scripted _ last i.keys says)))

  -- the second processor against its entries
  para_told : (clock : Clock) (i : Inputs) (last : List (Option Status)) (g : List Entry × para.ParaState → Result (Verdict Ending) (Refusal Cause)) →
      Says (g (entries_in (trace i.trace), para.power_on clock i.tube)) last →
      Says (para_of clock i >>= g) (map misfit (para_images i) ++ (trace_causes true clock i.trace ++ last))
  unfolding para_of
  para_told clock i last g says =
      simp (bound, lengths.para) (all_fit _ (trace_causes true clock i.trace ++ last) (para_images i) (para_trace clock _ last i.trace says))

  -- both machines
  both_told : (set : Setup) (i : Inputs) (g : host.HostState × para.ParaState → Result (Verdict Ending) (Refusal Cause)) (list : List (Option Status)) →
      Says (g (host_at set i, para.power_on set.clock i.tube)) list →
      Says (machines_of set i >>= g) (map misfit (both_images set.kinds i) ++ bad_script i.keys ∷ list)
  both_told set i g list says = simp (lengths.both, fit_bound, bound) (all_fit _ (bad_script i.keys ∷ list) (both_images set.kinds i) (scripted _ list i.keys says))

  -- ---- each command, by what it read

  replay_told : (set : Setup) (side : Side) (ticks : ℕ) (names : Names) (i : Inputs) → Says (replay_after set side ticks names i) (replay_causes set side ticks i)
  unfolding replay_after replayed machine_verdict
  replay_told set Host ticks names i =
      host_told set i _ _ (ends_by _ _ (λ s. machine_verdict (host_left set.clock ticks (side_count Host ticks (entries_in (trace i.trace))) names s)) _ refl)
  replay_told set Para ticks names i =
      para_told set.clock i _ _ (ends_by _ _ (λ s. machine_verdict (para_left set.clock ticks (side_count Para ticks (entries_in (trace i.trace))) names s)) _ refl)

  follow_told : (set : Setup) (side : Side) (ticks : ℕ) (choice : Choice) (out : List ℕ) (i : Inputs) → Says (follow_after set side ticks choice out i) (follow_causes set side ticks i)
  unfolding follow_after listed_by
  follow_told set Host ticks choice out i =
      let start : host.HostState = host.with_tube set.tube (host_at set i) in
      host_told set i _ _ (pointed choice _ _ (λ chosen.
      ends_by _ _ (listed_verdict out) (replay_listing host_transitions host_sight Nmos Host (entries_in (trace i.trace)) ticks chosen start) refl) i.points)
  follow_told set Para ticks choice out i =
      let start : para.ParaState = para.power_on set.clock i.tube in
      para_told set.clock i _ _ (pointed choice _ _ (λ chosen.
      ends_by _ _ (listed_verdict out) (replay_listing para_transitions para_sight Cmos Para (entries_in (trace i.trace)) ticks chosen start) refl) i.points)

  solo_told : (set : Setup) (ticks keep : ℕ) (names : Names) (i : Inputs) → Says (solo_after set ticks keep names i) (pair_causes set i)
  unfolding solo_after kept_verdict machine_verdict
  solo_told set ticks keep names i = both_told set i _ [] refl

  session_told_by : (plugs : List Plug) (ticks keep : ℕ) (names : Names) (f : Result Session StateError) →
      Says (or_refusal state_refusal f >>= λ s. machines_of (setup_in s plugs) (inputs_in s) >>= λ m. Ok (unless_wrong (wrong s.entries) (session_ended plugs ticks keep names s m)))
      (bad_state f ∷ session_causes plugs ticks f)
  unfolding session_ended kept_verdict machine_verdict setup_in
  session_told_by plugs ticks keep names (Ok s) =
      both_told (setup_in s plugs) (inputs_in s) _ _
      (ends_by _ _ (kept_verdict s.clock (begun_if names.save (setup_in s plugs) (inputs_in s)) ticks keep names)
      (reference host_transitions para_transitions (host_at (setup_in s plugs) (inputs_in s)) (para.power_on s.clock (inputs_in s).tube) ticks) refl)
  session_told_by plugs ticks keep names (Err (state_errors.BadField at)) = refl
  session_told_by plugs ticks keep names file = refl

  session_told : (plugs : List Plug) (ticks keep : ℕ) (names : Names) (i : Inputs) →
      Says (session_after plugs ticks keep names i) (bad_state (sessions.file i.state) ∷ session_causes plugs ticks (sessions.file i.state))
  unfolding session_after state_of
  session_told plugs ticks keep names i = session_told_by plugs ticks keep names (sessions.file i.state)

  -- the images of every seed fit
  gen_told : (seed : ℕ) → Says (gen_after seed) []
  unfolding gen_after
  gen_told seed =
      let fit : HasFittingImages seed = fitting.all_fit seed in
      let told = both_told gen_setup (pair_inputs fit.os fit.tube)
      (λ m. Ok (gen_verdict seed (reference host_transitions para_transitions m.0 m.1 gen_ticks).host)) [] refl in
      rw (fit.os_is, fit.tube_is) (rw (fit.os_fits, fit.tube_fits) at told)

checked : (entries : List Entry) (w : Option (ℕ × ℕ)) → Says (Ok (tools_check.check_verdict entries w)) (wrong_by w ∷ [])
checked entries None = refl
checked entries (Some w) = refl

check_told_by : (t : Result (Clock × List Entry) TraceError) →
    Says (or_refusal refusal_of t >>= λ x. Ok (tools_check.check_verdict x.1 (wrong x.1))) (bad_trace t ∷ wrong_by (wrong (entries_in t)) ∷ [])
check_told_by (Ok t) = checked t.1 (wrong t.1)
check_told_by (Err (trace_errors.BadLine line)) = refl
check_told_by t = refl

asm_told_by : (out : List ℕ) (p : Result Program AsmError) → Says (or_refusal tools.refusal_of p >>= λ x. Ok (file_verdict out x.1)) (bad_source p ∷ [])
asm_told_by out (Err (asm_errors.Syntax line)) = refl
asm_told_by out p = refl

dis_told_by : (b : Bool) (v : Verdict Ending) (n : ℕ) → v.ending ≡ endings.Done →
    Says (if b then Err (refusals.Cause (causes_of.BadImage places.Image n)) else Ok v) ((if b then Some (BadImage places.Image n) else None) ∷ [])
dis_told_by true v n done = refl
dis_told_by false v n done = rw done

-- the result of a command, by what it read
read_told : LengthsComeFirst → (plugs : List Plug) (c : Command) (i : Inputs) → Says (after plugs c i) (read_causes plugs c i)
unfolding check_after trace_of tools.asm_after tools.dis_after
read_told lengths plugs (check name) i = check_told_by (trace i.trace)
read_told lengths plugs (asm part text out) i = asm_told_by out (source part i.source)
read_told lengths plugs (dis part image origin out) i = dis_told_by (nat_lt 65536 (origin + length i.image)) (file_verdict out (decode part i.image origin)) (length i.image) refl
read_told lengths plugs (replay side name ticks out given) i = replay_told lengths (setup_of given plugs) side ticks (names_of out given) i
read_told lengths plugs (solo ticks out keep given) i = solo_told lengths (setup_of given plugs) ticks keep (names_of out given) i
read_told lengths plugs (run ticks out keep given) i = solo_told lengths (setup_of given plugs) ticks keep (names_of out given) i
read_told lengths plugs (resume state ticks out keep given) i = session_told lengths plugs ticks keep (names_of out given) i
read_told lengths plugs (follow side name ticks out given) i = follow_told lengths (setup_of given plugs) side ticks (choice_of given) out i
read_told lengths plugs (gen seed) i = gen_told lengths seed

-- the result of a command on the files that the shelf holds
verdict_told : LengthsComeFirst → (plugs : List Plug) (c : Command) (files : Files) →
    Tells (verdict (plan plugs c) files) (causes plugs files (Some c))
verdict_told lengths plugs c files =
    all_read files (reads c) (λ list. or_stop (after plugs c (inputs_of list))) (read_causes plugs c (inputs_of (held files (reads c))))
    (read_told lengths plugs c (inputs_of (held files (reads c))))

-- ---- from the result of a command to its status

-- the status of an ending
abbrev status_by : Option (Result Ending (Stop Cause)) → Status
status_by None = Usage
status_by (Some (Ok endings.Done)) = Done
status_by (Some (Ok (endings.Wrong line byte))) = Wrong line byte
status_by (Some (Ok (endings.Differs line doing))) = Differs line doing
status_by (Some (Err (stops.Refused (causes_of.BadImage which len)))) = BadImage which len
status_by (Some (Err (stops.Refused (causes_of.BadScript line kind)))) = BadScript line kind
status_by (Some (Err (stops.Refused (causes_of.BadPoints line kind)))) = BadPoints line kind
status_by (Some (Err (stops.Refused (causes_of.BadTrace line kind)))) = BadTrace line kind
status_by (Some (Err (stops.Refused (causes_of.BadSource line kind)))) = BadSource line kind
status_by (Some (Err (stops.Refused (causes_of.BadState at)))) = BadState at
status_by (Some (Err (stops.ReadFault name))) = ReadFault name
status_by (Some (Err (stops.TooLong name))) = TooLong name
status_by (Some (Err (stops.WriteFault name))) = WriteFault name
status_by (Some (Err stops.NoThread)) = NoThread
status_by (Some (Err stops.NoMemory)) = NoMemory

back : (s : Status) → s ≡ status_by (end_of s)
back (ReadFault name) = refl
back s = refl

pub same_end : (a b : Status) → end_of a ≡ end_of b → a ≡ b
same_end a b is = back a ∙ ap status_by is ∙ sym (back b)

-- a status of an ending is of number 0 or 8
comes_to : (s : Status) (ending : Ending) → end_of s ≡ Some (Ok ending) → (number s ≡ 0) ⊎ (number s ≡ 8)
comes_to Done ending is = inl refl
comes_to (Wrong line byte) ending is = inr refl
comes_to (Differs line doing) ending is = inr refl
comes_to s ending is = cc

-- both parts of what was read
parts_read : (slot : InputKind) (one : Result (List ℕ) (Stop Cause)) (more : Result (plans.Inputs InputKind) (Stop Cause)) (inputs : plans.Inputs InputKind) →
    (one >>= λ bytes. more >>= λ m. Ok ((slot, bytes) ∷ m)) ≡ Ok inputs → (bytes : List ℕ) × (m : plans.Inputs InputKind) × (one ≡ Ok bytes) × (more ≡ Ok m)
parts_read slot (Ok bytes) (Ok m) inputs is = (bytes, m, refl, refl)
parts_read slot (Ok bytes) (Err stop) inputs is = cc
parts_read slot (Err stop) more inputs is = cc

-- a missing file, after files that were read
stops_there : (files : Files) (front : List (Want InputKind)) (w : Want InputKind) (rest : List (Want InputKind)) (inputs : plans.Inputs InputKind) →
    read_all {C = Cause} files front ≡ Ok inputs → bytes_of files w.1 ≡ None → read_all {C = Cause} files (front ++ w ∷ rest) ≡ Err (stops.ReadFault w.1)
stops_there files [] w rest inputs read gone = rw gone
stops_there files (x ∷ front) w rest inputs read gone =
    let got = parts_read x.0 (within x.1 x.2 (bytes_of files x.1)) (read_all files front) inputs read in
    rw (got.2, stops_there files front w rest got.1 got.3 gone)

-- no cause holds of files that were read
none_unread : (files : Files) (front : List (Want InputKind)) (inputs : plans.Inputs InputKind) → read_all {C = Cause} files front ≡ Ok inputs → first_of (map (unread files) front) ≡ Done
none_unread files front inputs read =
    let done : Verdict Ending = record { ending = endings.Done; files = []; said = [] } in
    let tells : Tells (read_all files front >>= λ _. Ok done) (map (unread files) front ++ []) = all_read files front (λ _. Ok done) [] refl in
    same_end (first_of (map (unread files) front)) Done
    (ap (λ xs. end_of (first_of xs)) (sym (append-nil (map (unread files) front))) ∙ tells
    ∙ ap (λ (r : Result (plans.Inputs InputKind) (Stop Cause)). Some (ending_of (r >>= λ _. Ok done))) read)

module _ (lengths : LengthsComeFirst) (plugs : List Plug) (files : Files) (c : Command) (old new : World) (told : old.shelf.files ≡ Some files) where
  abbrev the_plan : Plan InputKind Ending Cause
  the_plan = plan plugs c

  abbrev the_causes : List (Option Status)
  the_causes = causes plugs files (Some c)

  verdict_is : (r : Result (Verdict Ending) (Stop Cause)) → ComesTo the_plan old.shelf.files r → verdict the_plan files ≡ r
  verdict_is r comes = rw told at comes

  lands : (status : Status) (r : Result (Verdict Ending) (Stop Cause)) → verdict the_plan files ≡ r → end_of status ≡ Some (ending_of r) → status ≡ first_of the_causes
  lands status r is end =
      same_end status (first_of the_causes) (end ∙ sym (verdict_told lengths plugs c files ∙ ap (λ (x : Result (Verdict Ending) (Stop Cause)). Some (ending_of x)) is))

  stopped : (r : Result (plans.Inputs InputKind) (Stop Cause)) → read_all {C = Cause} files (reads c) ≡ r → verdict the_plan files ≡ (r >>= λ inputs. or_stop (the_plan.after inputs))
  stopped r is = ap (λ (x : Result (plans.Inputs InputKind) (Stop Cause)). x >>= λ inputs. or_stop (the_plan.after inputs)) is

  unread_lands : (status : Status) (name : List ℕ) → end_of status ≡ Some (Err (stops.ReadFault name)) → IsReached Cause (reads c) name files → bytes_of files name ≡ None →
      status ≡ first_of the_causes
  unread_lands status name end (front, w, rest, inputs, split, is, read) gone =
      let stop : read_all {C = Cause} files (reads c) ≡ Err (stops.ReadFault name) =
      ap (λ ws. read_all {C = Cause} files ws) split ∙ stops_there files front w rest inputs read (ap (λ n. bytes_of files n) is ∙ gone)
      ∙ ap (λ (n : List ℕ). Err (stops.ReadFault n)) is in
      lands status (Err (stops.ReadFault name)) (stopped (Err (stops.ReadFault name)) stop) end

  by_bytes : (status : Status) (name : List ℕ) (o : Option (List ℕ)) → bytes_of files name ≡ o → end_of status ≡ Some (Err (stops.ReadFault name))
      → IsReached Cause (reads c) name files →
      Contains (read_names (reads c)) name → Rose (old.shelf.faults name) (new.shelf.faults name) → NoFault plugs files old new c → status ≡ first_of the_causes
  by_bytes status name None is end reached wanted rose none = unread_lands status name end reached is
  by_bytes status name (Some bytes) is end reached wanted rose none = absurd (rose_not_stayed _ _ rose (none.read name bytes wanted is))

  first_by : (status : Status) (end : Result Ending (Stop Cause)) → end_of status ≡ Some end → EndsAs the_plan old new end → NoFault plugs files old new c →
      (status ≡ first_of the_causes) ⊎ (status ≡ NoMemory)
  first_by status (Ok ending) is e none = inl (lands status (Ok e.0) (verdict_is (Ok e.0) e.1.0) (is ∙ ap (λ (x : Ending). Some (Ok x)) e.2))
  first_by status (Err (stops.Refused cause)) is e none = inl (lands status (Err (stops.Refused cause)) (verdict_is (Err (stops.Refused cause)) e.0) is)
  first_by status (Err (stops.ReadFault name)) is e none =
      inl (by_bytes status name (bytes_of files name) refl is (rw told at e.0.reached) e.0.wanted e.0.rose none)
  first_by status (Err (stops.TooLong name)) is e none =
      let stop : Stayed (old.shelf.faults name) (new.shelf.faults name) × (read_all {C = Cause} files (reads c) ≡ Err (stops.TooLong name)) = rw told at e.0.told in
      inl (lands status (Err (stops.TooLong name)) (stopped (Err (stops.TooLong name)) stop.1) is)
  first_by status (Err (stops.WriteFault name)) is (v, comes, inl w) none =
      absurd (rose_not_stayed _ _ w.1 (none.written v (verdict_is (Ok v) comes.0) name w.0))
  first_by status (Err (stops.WriteFault name)) is (v, comes, inr w) none = absurd (rose_not_stayed _ _ w.2 none.said)
  first_by status (Err stops.NoThread) is e none = absurd (thread_not_stayed the_plan.paired old.crew new.crew e.2 none.crew)
  first_by status (Err stops.NoMemory) is e none = inr (same_end status NoMemory is)

  by_end : (status : Status) (o : Option (Result Ending (Stop Cause))) → end_of status ≡ o → IsSomeAnd o (λ end. CarriesOut the_plan old new end) → NoFault plugs files old new c →
      (status ≡ first_of the_causes) ⊎ (status ≡ NoMemory)
  by_end status None is e none = absurd e
  by_end status (Some end) is e none = first_by status end is e.ends none

  -- it reached a verdict
  written_behind : (v : Verdict Ending) → ComesTo the_plan old.shelf.files (Ok v) → ComesToWriting the_causes
  written_behind v comes =
      comes_to (first_of the_causes) v.ending (verdict_told lengths plugs c files ∙ ap (λ (x : Result (Verdict Ending) (Stop Cause)). Some (ending_of x)) (verdict_is (Ok v) comes))

  carried_in_order : (status : Status) → EndsWith plugs c old new status → RefusesInOrder plugs files (Some c) old new status
  unfolding EndsWith
  carried_in_order status e = record {
    first = λ none. by_end status (end_of status) refl e none;
    reading = λ name is.
        let end : CarriesOut the_plan old new (Err (stops.ReadFault name)) = rw is at e in
        let reached : IsReached Cause (reads c) name files = rw told at end.ends.0.reached in
        (c, reached.0, reached.1, reached.2, refl, reached.4, reached.5, none_unread files reached.0 reached.3 reached.6);
    starting = λ is. let end : CarriesOut the_plan old new (Err stops.NoThread) = rw is at e in written_behind end.ends.0 end.ends.1;
    writing = λ name is. let end : CarriesOut the_plan old new (Err (stops.WriteFault name)) = rw is at e in written_behind end.ends.0 end.ends.1.0;
    named = first_named (causes plugs files (Some c)) (causes_named plugs files (Some c));
  }

no_words : (plugs : List Plug) (files : Files) (old new : World) (status : Status) → status ≡ Usage → RefusesInOrder plugs files None old new status
no_words plugs files old new status is = record {
  first = λ none. inl is;
  reading = λ name other. cc;
  starting = λ other. cc;
  writing = λ name other. cc;
  named = λ other. cc;
}

pub refusals_in_order : LengthsComeFirst → RefusalsInOrder
refusals_in_order lengths plugs files None old new status told answer = no_words plugs files old new status (answer.usage.1 refl)
refusals_in_order lengths plugs files (Some c) old new status told answer = carried_in_order lengths plugs files c old new told status answer.ran
