-- `replay` and `follow` of the trace of a run.
use Rattle.std.proofs.Common.{◌≡◌, ◌∙◌, sym, refl, ap, ℕ, zero, suc, ◌+◌, ◌≤◌, Bool}
use Rattle.std.proofs.Common.{true, false, ◌==◌, ◌&&◌, nat_lt, List, [], ◌∷◌, ◌++◌, length, take}
use Rattle.std.proofs.Common.{All, Option, Some, None, Result, Ok, Err, arith, if◌then◌else◌}
use Rattle.std.proofs.lemmas.Bool.{false≢true}
use Rattle.std.specs.List.{list_all}
use Rattle.beeb_bits.specs.declared.clock.Clock.{Clock}
use Rattle.beeb_bits.specs.declared.clock.Clock.TheVariants.{Three, Four}
use Rattle.beeb_bits.specs.declared.Side.{Side}
use Rattle.beeb_bits.specs.declared.Side.TheVariants.{Host, Para}
use Rattle.beeb_files.specs.Files.{Files, bytes_of}
use Rattle.bus_plug.specs.Plug.{Plug}
use Rattle.disc_image.specs.Image.{Image}
use Rattle.key_script.specs.declared.Event.{Event}
use Rattle.rom_set.specs.Roms.{Roms}
use Rattle.op_table.specs.declared.names.Part.TheVariants.{Nmos, Cmos}
use Rattle.tube_trace.specs.declared.Entry.{Entry}
use Rattle.tube_trace.specs.FirstWrong.{wrong}
use Rattle.tube_trace.specs.Laws.{IsOfByte, TextReadsBack}
use Rattle.tube_trace.specs.Text.{text_of}
use Rattle.tube_trace.specs.Trace.{trace}
use Rattle.tube_chip.specs.Events.{is_side}
use Rattle.tube_party.specs.ReplayLaws.{own_below, ReferenceIsReplayed}
use Rattle.tube_party.specs.Reference.{ReferenceIsTrace}
use Rattle.tube_party.proofs.Replayed.{own_all, own_of_accesses}
use Rattle.follow.specs.Listing.{ListingState, replay_listing}
use Rattle.follow.specs.Machines.{host_sight, para_sight}
use Rattle.follow.specs.Reference.{HostListingIsReference, ParaListingIsReference}
use Rattle.follow.specs.declared.Choice.{Choice}
use Rattle.host_mach.specs.State as host
use Rattle.host_mach.specs.State.{HostState}
use Rattle.host_mach.specs.Step.{host_transitions}
use Rattle.para_mach.specs.State as para
use Rattle.para_mach.specs.State.{ParaState}
use Rattle.para_mach.specs.Step.{para_transitions}
use Rattle.cmd_words.specs.declared.keys.InputKind.{InputKind}
use Rattle.cmd_words.specs.declared.keys.InputKind.TheVariants as slots
use Rattle.cmd_words.specs.Keys.{Value, file, Key, keys}
use Rattle.cmd_words.specs.Given.{Values, clock_of}
use Rattle.cmd_words.specs.Command.{replay, follow}
use Rattle.cmd_words.specs.Reads.{file_of, files_of, reads}
use Rattle.cmd_stages.specs.declared.stop.Stop.{Stop}
use Rattle.cmd_stages.specs.Plan as plans
use Rattle.cmd_stages.specs.Plan.{Verdict, Want, ◌>>=◌, or_refusal, or_stop, read_all, verdict, within}
use Rattle.cmd_status.specs.declared.status.Ending.{Ending}
use Rattle.cmd_status.specs.declared.status.Ending.TheVariants as endings
use Rattle.cmd_status.specs.declared.status.Cause.{Cause}
use Rattle.cmd_machines.specs.Inputs as inputs
use Rattle.cmd_machines.specs.Inputs.{Inputs, inputs_of}
use Rattle.cmd_machines.specs.Setup.{Setup, setup_of}
use Rattle.cmd_machines.specs.Discs.{discs_of}
use Rattle.cmd_machines.specs.Roms.{roms_of}
use Rattle.cmd_machines.specs.Script.{script_of}
use Rattle.cmd_machines.specs.Machines.{os_of, rom_of, machines_of}
use Rattle.cmd_outcome.specs.Left.{Left}
use Rattle.cmd_outcome.specs.Names.{Names, names_of}
use Rattle.cmd_outcome.specs.Trace.{trace_of, is_same, entries_of}
use Rattle.cmd_outcome.specs.Verdicts.{machine_verdict}
use Rattle.cmd_replayed.specs.Made.{entries_at, host_of, para_of}
use Rattle.cmd_replay.specs.Replay.{side_count, replayed, replay_after}
use Rattle.cmd_follow.specs.Follow.{listed_verdict, listed_by, follow_after, chosen_with}
use Rattle.cmd_top.specs.Plans.{plan, choice_of}
use Rattle.cmd_top.proofs.HeadlineLemmas.{bound_ok}
use Rattle.law_sessions.specs.OneRun.{accesses_of}
use Rattle.law_sessions.specs.TraceOfRun.{IsSameHost, IsSamePara, IsSameMachine}
use Rattle.law_sessions.specs.TraceOfRun.{run_of, count_of, left_of, IsReplayed, RunIsReplayed, listing_in, IsFollowed, RunIsFollowed}
use Rattle.law_sessions.proofs.Saved.{none_wrong}
use Rattle.law_sessions.proofs.YieldLemmas.{yields}
use Rattle.law_sessions.proofs.CheckLemmas.{after_each, kept, kept_read, capped, short}

-- ---- the machines of a run, part by part

pub record Made (set : Setup) (i : Inputs) (m : HostState × ParaState) : Type 0 where
  pub roms : Roms
  pub discs : Option Image × Option Image
  pub script : List Event
  pub roms_is : roms_of (record { os = i.os; slots = i.roms; font = i.font }) ≡ Ok roms
  pub discs_is : discs_of set.kinds i.disc0 i.disc1 ≡ Ok discs
  pub script_is : script_of i.keys ≡ Ok script
  pub rom_is : rom_of i.tube ≡ Ok i.tube
  pub host_is : m.0 ≡ host.power_on set.clock roms discs.0 discs.1 script set.plugs
  pub para_is : m.1 ≡ para.power_on set.clock i.tube

only_ok : {A E : Type 0} (b : Bool) (x y : A) (e : E) → (if b then Ok x else Err e) ≡ Ok y → y ≡ x
only_ok true x y e is = cc
only_ok false x y e is = cc

one_value : {A E : Type 0} {r : Result A E} {x y : A} → r ≡ Ok x → r ≡ Ok y → y ≡ x
one_value one two = cc

os_is : (bytes os : List ℕ) → os_of bytes ≡ Ok os → os ≡ bytes
unfolding os_of
os_is bytes os is = only_ok (length bytes == 16384) bytes os _ is

rom_is : (bytes rom : List ℕ) → rom_of bytes ≡ Ok rom → rom ≡ bytes
unfolding rom_of
rom_is bytes rom is = only_ok (length bytes == 2048) bytes rom _ is

made_parts : (set : Setup) (i : Inputs) (m : HostState × ParaState) → machines_of set i ≡ Ok m → Made set i m
unfolding machines_of
made_parts set i m made =
    let a = bound_ok (os_of i.os) _ m made in
    let b = bound_ok (rom_of i.tube) _ m a.2 in
    let c = bound_ok (roms_of (record { os = a.0; slots = i.roms; font = i.font })) _ m b.2 in
    let d = bound_ok (discs_of set.kinds i.disc0 i.disc1) _ m c.2 in
    let e = bound_ok (script_of i.keys) _ m d.2 in
    let rom : b.0 ≡ i.tube = rom_is i.tube b.0 b.1 in
    let both : m ≡ (host.power_on set.clock c.0 d.0.0 d.0.1 e.0 set.plugs, para.power_on set.clock b.0) = one_value refl e.2 in
    record {
      roms = c.0;
      discs = d.0;
      script = e.0;
      roms_is = ap (λ (os : List ℕ). roms_of (record { os = os; slots = i.roms; font = i.font })) (sym (os_is i.os a.0 a.1)) ∙ c.1;
      discs_is = d.1;
      script_is = e.1;
      rom_is = b.1 ∙ ap (λ (bytes : List ℕ). Ok bytes) rom;
      host_is = ap (λ (x : HostState × ParaState). x.0) both;
      para_is = ap (λ (x : HostState × ParaState). x.1) both ∙ ap (para.power_on set.clock) rom;
    }

same_clock : (clock : Clock) → is_same clock clock ≡ true
same_clock Three = refl
same_clock Four = refl

entries_read : (clock : Clock) (bytes : List ℕ) (entries : List Entry) → trace bytes ≡ Ok (clock, entries) → entries_of clock bytes ≡ Ok entries
unfolding entries_of trace_of
entries_read clock bytes entries is = rw (is, same_clock clock) refl

module _ (set again : Setup) (i j : Inputs) (m : HostState × ParaState) (entries : List Entry) (made : Made set i m)
    (read : entries_of set.clock j.trace ≡ Ok entries) where
  host_again : IsSameHost set i again j → host_of again j ≡ Ok (entries, m.0)
  unfolding host_of entries_at
  host_again same =
      rw (
        same.os,
        same.roms,
        same.font,
        made.roms_is,
        same.kinds,
        same.disc0,
        same.disc1,
        made.discs_is,
        same.tube,
        same.clock,
        read,
        same.keys,
        made.script_is,
        same.plugs,
        made.host_is,
      ) refl

  para_again : IsSamePara set i again j → para_of again.clock j ≡ Ok (entries, m.1)
  unfolding para_of
  para_again same = rw (same.tube, made.rom_is, same.clock, read, made.para_is) refl

-- ---- the trace among what was read

abbrev no_trace : Value → Bool
no_trace (file slots.Trace) = false
no_trace v = true

abbrev IsOther : InputKind → Type 0
IsOther slots.Trace = ⊥
IsOther slot = Unit {0}

abbrev AreOthers : List (Want InputKind) → Type 0
AreOthers [] = Unit {0}
AreOthers (w ∷ ws) = IsOther w.0 × AreOthers ws

no_key_has : list_all (λ (k : Key). no_trace k.value) keys ≡ true
unfolding keys
no_key_has = refl

both_true : (a b : Bool) → (a && b) ≡ true → (a ≡ true) × (b ≡ true)
both_true true b h = (refl, h)
both_true false b h = cc

one_other : (value : Value) (v : Option (List ℕ)) (ws : List (Want InputKind)) → no_trace value ≡ true → AreOthers ws →
    AreOthers (file_of value v ++ ws)
one_other (file slots.Trace) v ws none others = absurd (false≢true none)
one_other (file slot) None ws none others = others
one_other (file slot) (Some name) ws none others = (tt, others)
one_other value v ws none others = others

are_others : (ks : List Key) (vs : Values) → list_all (λ (k : Key). no_trace k.value) ks ≡ true → AreOthers (files_of ks vs)
are_others [] vs none = tt
are_others (k ∷ ks) [] none = tt
are_others (k ∷ ks) (v ∷ vs) none =
    let both = both_true (no_trace k.value) (list_all (λ (l : Key). no_trace l.value) ks) none in
    one_other k.value v (files_of ks vs) both.0 (are_others ks vs both.1)

disc_stays : (first : Bool) (bytes : List ℕ) (i : Inputs) →
    (if first then record i { disc0 = Some bytes } else record i { disc1 = Some bytes }).trace ≡ i.trace
disc_stays true bytes i = refl
disc_stays false bytes i = refl

one_stays : (slot : InputKind) (bytes : List ℕ) (i : Inputs) → IsOther slot → (inputs.with_input slot bytes i).trace ≡ i.trace
one_stays slots.Trace bytes i other = absurd other
one_stays (slots.Disc n) bytes i other = disc_stays (n == 0) bytes i
one_stays slot bytes i other = refl

-- what was read, one file in front of the others
first_read : (slot : InputKind) (one : Result (List ℕ) (Stop Cause)) (more : Result (plans.Inputs InputKind) (Stop Cause))
    (list : plans.Inputs InputKind) →
    (one >>= λ bytes. more >>= λ m. Ok ((slot, bytes) ∷ m)) ≡ Ok list →
    (bytes : List ℕ) × (m : plans.Inputs InputKind) × (one ≡ Ok bytes) × (more ≡ Ok m) × (list ≡ (slot, bytes) ∷ m)
first_read slot (Ok bytes) (Ok m) list is = (bytes, m, refl, refl, cc)
first_read slot (Ok bytes) (Err stop) list is = cc
first_read slot (Err stop) more list is = cc

trace_stays : (files : Files) (ws : List (Want InputKind)) (list : plans.Inputs InputKind) (i : Inputs) → AreOthers ws →
    read_all {C = Cause} files ws ≡ Ok list →
    (inputs.with_inputs list i).trace ≡ i.trace
trace_stays files [] [] i others is = refl
trace_stays files [] (x ∷ list) i others is = cc
trace_stays files (w ∷ ws) list i others is =
    let got = first_read w.0 (within w.1 w.2 (bytes_of files w.1)) (read_all files ws) list is in
    ap (λ (l : plans.Inputs InputKind). (inputs.with_inputs l i).trace) got.4
    ∙ trace_stays files ws got.1 (inputs.with_input w.0 got.0 i) others.1 got.3
    ∙ one_stays w.0 got.0 i others.0

-- the trace that a later call read
trace_is : (files : Files) (name bytes : List ℕ) (options : Values) (list : plans.Inputs InputKind) → bytes_of files name ≡ Some bytes →
    length bytes ≤ 100663296 →
    read_all {C = Cause} files ((slots.Trace, name, 100663296) ∷ files_of keys options) ≡ Ok list → (inputs_of list).trace ≡ bytes
unfolding inputs_of
trace_is files name bytes options list has low is =
    let got = first_read slots.Trace (within name 100663296 (bytes_of files name)) (read_all files (files_of keys options)) list is in
    let same : got.0 ≡ bytes = one_value (ap (within {C = Cause} name 100663296) has ∙ capped name bytes low) got.2 in
    ap (λ (l : plans.Inputs InputKind). (inputs.with_inputs l inputs.no_inputs).trace) got.4
    ∙ trace_stays files (files_of keys options) got.1 (record inputs.no_inputs { trace = got.0 }) (are_others keys options no_key_has) got.3
    ∙ same

-- ---- the replay of a side

all_kept : (keep : ℕ) (xs : List Entry) → length xs ≤ keep → take keep xs ≡ xs
all_kept zero [] low = refl
all_kept zero (x ∷ xs) low = absurd (omega (arith, low))
all_kept (suc keep) [] low = refl
all_kept (suc keep) (x ∷ xs) low = ap (λ l. x ∷ l) (all_kept keep xs (omega (arith, low)))

counted_by : (b : Bool) (x : Entry) (xs : List Entry) (k : ℕ) → k ≡ length xs → (if b then 1 + k else k) ≡ length (if b then x ∷ xs else xs)
counted_by true x xs k is = omega (arith, is)
counted_by false x xs k is = is

counted : (side : Side) (n : ℕ) (xs : List Entry) → side_count side n xs ≡ length (own_below side n xs)
counted side n [] = refl
counted side n (x ∷ xs) = counted_by (is_side side x.side && nat_lt (x.tick).0 n) x (own_below side n xs) (side_count side n xs) (counted side n xs)

module _ (legal : ReferenceIsTrace host_transitions para_transitions) (reads_back : TextReadsBack)
    (again : ReferenceIsReplayed host_transitions para_transitions) where
  count_is : (side : Side) (m : HostState × ParaState) (n : ℕ) → side_count side n (accesses_of m n) ≡ count_of side m n
  count_is side m n =
      counted side n (accesses_of m n)
      ∙ ap length (own_all side n (accesses_of m n) (legal m.0 m.1 n).below ∙ sym (own_of_accesses side (run_of m n).list))

  none_is : (m : HostState × ParaState) (n : ℕ) → wrong (accesses_of m n) ≡ None
  none_is m n = none_wrong (legal m.0 m.1 n)

  -- the entries of the trace that was read
  entries_are : (m : HostState × ParaState) (n keep : ℕ) (clock : Clock) (bytes : List ℕ) → n ≤ 1073741824 → length (accesses_of m n) ≤ keep →
      All IsOfByte (accesses_of m n) →
      bytes ≡ text_of clock (kept m n keep) → entries_of clock bytes ≡ Ok (accesses_of m n)
  entries_are m n keep clock bytes most all of_byte is =
      entries_read clock bytes (accesses_of m n)
      (ap trace is ∙ kept_read legal reads_back m n keep clock most of_byte ∙ ap (λ (xs : List Entry). Ok (clock, xs))
      (all_kept keep (accesses_of m n) all))

  module _ (set other : Setup) (i j : Inputs) (m : HostState × ParaState) (n : ℕ) (made : machines_of set i ≡ Ok m)
      (read : entries_of set.clock j.trace ≡ Ok (accesses_of m n)) where
    replay_is : (side : Side) (names : Names) → IsSameMachine side set i other j →
        replay_after other side n names j ≡ Ok (machine_verdict (left_of side set.clock m n names))
    unfolding replay_after replayed
    replay_is Host names same =
        rw (
          host_again set other i j m (accesses_of m n) (made_parts set i m made) read same,
          none_is m n,
          (again m.0 m.1 n).0,
          same.clock,
          count_is Host m n,
        ) refl
    replay_is Para names same =
        rw (
          para_again set other i j m (accesses_of m n) (made_parts set i m made) read same,
          none_is m n,
          (again m.0 m.1 n).1,
          same.clock,
          count_is Para m n,
        ) refl

    host_listed : (choice chosen : Choice) (out : List ℕ) → IsSameHost set i other j → chosen_with choice j.points ≡ Ok chosen →
        follow_after other Host n choice out j ≡ Ok (listed_verdict out
        (replay_listing host_transitions host_sight Nmos Host (accesses_of m n) n chosen m.0))
    unfolding follow_after listed_by
    host_listed choice chosen out same is =
        rw (host_again set other i j m (accesses_of m n) (made_parts set i m made) read same, is, none_is m n, (again m.0 m.1 n).0) refl

    para_listed : (choice chosen : Choice) (out : List ℕ) → IsSamePara set i other j → chosen_with choice j.points ≡ Ok chosen →
        follow_after other Para n choice out j ≡ Ok (listed_verdict out
        (replay_listing para_transitions para_sight Cmos Para (accesses_of m n) n chosen m.1))
    unfolding follow_after listed_by
    para_listed choice chosen out same is =
        rw (para_again set other i j m (accesses_of m n) (made_parts set i m made) read same, is, none_is m n, (again m.0 m.1 n).1) refl

    follow_is : (side : Side) (choice chosen : Choice) (out : List ℕ) → HostListingIsReference host_transitions host_sight para_transitions →
        ParaListingIsReference host_transitions para_transitions para_sight → IsSameMachine side set i other j →
        chosen_with choice j.points ≡ Ok chosen →
        follow_after other side n choice out j ≡ Ok (listed_verdict out (listing_in side chosen m n))
    follow_is Host choice chosen out host_lists para_lists same is =
        host_listed choice chosen out same is ∙ ap (λ (l : ListingState). Ok (listed_verdict out l)) (host_lists Nmos chosen m.0 m.1 n)
    follow_is Para choice chosen out host_lists para_lists same is =
        para_listed choice chosen out same is ∙ ap (λ (l : ListingState). Ok (listed_verdict out l)) (para_lists Cmos chosen m.0 m.1 n)

  -- ---- from the files

  replay_verdict : (side : Side) (others : List Plug) (name into : List ℕ) (n : ℕ) (options : Values) (read : plans.Inputs InputKind) (shelf : Files)
      (v : Verdict Ending) →
      read_all {C = Cause} shelf (reads (replay side name n into options)) ≡ Ok read →
      replay_after (setup_of options others) side n (names_of into options) (inputs_of read) ≡ Ok v →
      verdict (plan others (replay side name n into options)) shelf ≡ Ok v
  replay_verdict side others name into n options read shelf v has is = rw (has, is) refl

  follow_verdict : (side : Side) (others : List Plug) (name into : List ℕ) (n : ℕ) (options : Values) (read : plans.Inputs InputKind) (shelf : Files)
      (v : Verdict Ending) →
      read_all {C = Cause} shelf (reads (follow side name n into options)) ≡ Ok read
      → follow_after (setup_of options others) side n (choice_of options) into (inputs_of read) ≡ Ok v →
      verdict (plan others (follow side name n into options)) shelf ≡ Ok v
  follow_verdict side others name into n options read shelf v has is = rw (has, is) refl

  done_machine : (l : Left) → (machine_verdict l).ending ≡ endings.Done
  unfolding machine_verdict
  done_machine l = refl

  pub run_replayed : RunIsReplayed
  run_replayed =
      after_each IsReplayed (
      λ n keep out given plugs list m written most few made trace bytes all side others name into options read shelf start last status later has same.
      let text : List ℕ = text_of (clock_of given) (kept m n keep) in
      let is : (inputs_of read).trace ≡ text = trace_is shelf name text options read (later.same ∙ trace) (short m n keep (clock_of given) few) has in
      let entries : entries_of (clock_of given) (inputs_of read).trace ≡ Ok (accesses_of m n) =
      entries_are m n keep (clock_of given) (inputs_of read).trace most all bytes is in
      yields others (replay side name n into options) shelf (machine_verdict
      (left_of side (clock_of given) m n (names_of into options))) start last later.shelf
      (replay_verdict side others name into n options read shelf _ has
      (replay_is (setup_of given plugs) (setup_of options others) (inputs_of list) (inputs_of read) m n made entries side (names_of into options) same))
      (done_machine (left_of side (clock_of given) m n (names_of into options))) status later.ran
      )

  pub run_followed : HostListingIsReference host_transitions host_sight para_transitions →
      ParaListingIsReference host_transitions para_transitions para_sight → RunIsFollowed
  run_followed host_lists para_lists =
      after_each IsFollowed (
      λ n keep out given plugs list m written most few made trace bytes all side others name into options read
      chosen shelf start last status later has same is_chosen.
      let text : List ℕ = text_of (clock_of given) (kept m n keep) in
      let is : (inputs_of read).trace ≡ text = trace_is shelf name text options read (later.same ∙ trace) (short m n keep (clock_of given) few) has in
      let entries : entries_of (clock_of given) (inputs_of read).trace ≡ Ok (accesses_of m n) =
      entries_are m n keep (clock_of given) (inputs_of read).trace most all bytes is in
      yields others (follow side name n into options) shelf (listed_verdict into (listing_in side chosen m n)) start last later.shelf
      (follow_verdict side others name into n options read shelf _ has
      (follow_is (setup_of given plugs) (setup_of options others) (inputs_of list) (inputs_of read) m n made entries side
      (choice_of options) chosen into host_lists para_lists same is_chosen))
      refl status later.ran
      )
