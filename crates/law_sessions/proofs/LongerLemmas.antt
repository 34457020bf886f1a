-- The run of more ticks goes on from the run of fewer ticks.
use Rattle.std.proofs.Common.{◌≡◌, ◌∙◌, sym, refl, ap, ℕ, zero, suc, ◌≤◌, nat_lt, arith}
use Rattle.std.proofs.Common.{Bool, true, false, List, [], ◌∷◌, ◌++◌, take, append_assoc}
use Rattle.std.specs.Prelude.{All, IsTrue}
use Rattle.std.proofs.lemmas.Bool.Decides.{nat_tests}
use Rattle.std.proofs.lemmas.List.Concat.{flat_map-append}
use Rattle.std.proofs.lemmas.List.Elements.{All-nil, All-cons}
use Rattle.beeb_bits.specs.Order.{before}
use Rattle.beeb_bits.specs.declared.Side.{Side}
use Rattle.beeb_bits.specs.declared.clock.Clock.{Clock}
use Rattle.tube_chip.specs.Events.{Rises, RisesAfter}
use Rattle.tube_chip.proofs.Merged.{rises_tail}
use Rattle.tube_trace.specs.declared.Entry.{Entry}
use Rattle.tube_trace.specs.Entries.{event_of, events_of}
use Rattle.tube_trace.specs.Text.{text_of, line_text, lines_text}
use Rattle.tube_trace.specs.Trace.{beginning}
use Rattle.tube_party.specs.GoingOn.{entries_below, BroughtBackIsReference, ShorterRunIsBeginning}
use Rattle.tube_party.specs.Reference.{ReferenceIsTrace}
use Rattle.tube_party.specs.ReplayLaws.{ReferenceIsReplayed}
use Rattle.tube_party.proofs.Begun.{below_none}
use Rattle.host_mach.specs.Step.{host_transitions}
use Rattle.para_mach.specs.Step.{para_transitions}
use Rattle.law_sessions.specs.OneRun.{accesses_of}
use Rattle.law_sessions.specs.TraceOfRun.{run_of}
use Rattle.law_sessions.specs.LongerRun.{LongerRunGoesOn}

-- ---- Entries, each before the next

abbrev IsFrom : ℕ → Entry → Type 0
IsFrom t e = t ≤ (e.tick).0

not_sooner : {a b : ℕ} (x y : Side) → IsTrue (before a x b y) → a ≤ b
not_sooner x y h = grind (arith, nat_tests)

-- all that follow an entry are not sooner
all_from : {t : ℕ} (x : Entry) (xs : List Entry) → t ≤ (x.tick).0 → RisesAfter (event_of x) (events_of xs) → All (IsFrom t) xs
all_from {t} x [] low rises = All-nil (IsFrom t)
all_from {t} x (y ∷ xs) low rises =
    let on : (x.tick).0 ≤ (y.tick).0 = not_sooner x.side y.side rises.0 in
    All-cons (IsFrom t) y xs (omega arith) (all_from y xs (omega arith) rises.1)

-- the entries after those below a tick
record IsSplit (at : ℕ) (xs : List Entry) : Type 0 where
  later : List Entry
  is : xs ≡ entries_below at xs ++ later
  late : All (IsFrom at) later

split_by : (at : ℕ) (x : Entry) (xs : List Entry) (sooner : Bool) → nat_lt (x.tick).0 at ≡ sooner → RisesAfter (event_of x) (events_of xs)
    → IsSplit at xs → IsSplit at (x ∷ xs)
split_by at x xs true is rises others =
    record { later = others.later; is = rw is (ap (λ l. x ∷ l) others.is); late = others.late }
split_by at x xs false is rises others =
    let low : at ≤ (x.tick).0 = grind (arith, nat_tests) in
    let all : All (IsFrom at) (x ∷ xs) = All-cons (IsFrom at) x xs low (all_from x xs low rises) in
    record { later = x ∷ xs; is = rw (below_none at (x ∷ xs) all) refl; late = all }

split : (at : ℕ) (xs : List Entry) → Rises (events_of xs) → IsSplit at xs
split at [] rises = record { later = []; is = refl; late = All-nil (IsFrom at) }
split at (x ∷ xs) rises = split_by at x xs (nat_lt (x.tick).0 at) refl rises (split at xs (rises_tail (event_of x) (events_of xs) rises))

-- ---- The traces

first_of : (k : ℕ) (a b : List Entry) → (rest : List Entry) × (take k (a ++ b) ≡ take k a ++ rest)
first_of zero a b = ([], refl)
first_of (suc k) [] b = (take (suc k) b, refl)
first_of (suc k) (x ∷ a) b = let r = first_of k a b in (r.0, ap (λ l. x ∷ l) r.1)

trace_on : (clock : Clock) (keep : ℕ) (all a b : List Entry) → all ≡ a ++ b
    → (rest : List ℕ) × (text_of clock (take keep all) ≡ text_of clock (take keep a) ++ rest)
trace_on clock keep all a b is =
    let r = first_of keep a b in (
      lines_text r.0,
      ap (λ l. text_of clock (take keep l)) is ∙ ap (text_of clock) r.1
          ∙ ap (λ l. beginning clock ++ l) (flat_map-append line_text (take keep a) r.0)
          ∙ sym (append_assoc (beginning clock) (lines_text (take keep a)) (lines_text r.0)),
    )

pub longer_run : ReferenceIsTrace host_transitions para_transitions → ReferenceIsReplayed host_transitions para_transitions
    → BroughtBackIsReference host_transitions para_transitions → ShorterRunIsBeginning host_transitions para_transitions → LongerRunGoesOn
longer_run traced replayed brought shorter m less more le =
    let list : List Entry = accesses_of m less in
    let all : List Entry = accesses_of m more in
    let parts : IsSplit less all = split less all (traced m.0 m.1 more).rises in
    let is : all ≡ list ++ parts.later = parts.is ∙ ap (λ l. l ++ parts.later) (sym (shorter m.0 m.1 less more le)) in
    let back = replayed m.0 m.1 less in
    record {
      goes_on =
          (brought m.0 (run_of m less).host m.1 (run_of m less).para list less more le
          (record { legal = traced m.0 m.1 less; host = back.0; para = back.1 })).1;
      later = parts.later;
      accesses = is;
      late = parts.late;
      trace = λ clock keep. trace_on clock keep all list parts.later is;
    }
