-- What is stored of a run below its moment is the run to that moment.
use Rattle.std.proofs.Common.{ℕ, zero, suc, ◌≡◌, ◌-◌, ◌<◌, ◌≤◌, nat_lt, nat_le, refl, sym, ◌∙◌, ap, arith, Bool, true, false, List, [], ◌∷◌, length, map, take, drop}
use Rattle.std.proofs.Common.{slice_index_or, if◌then◌else◌}
use Rattle.std.specs.Prelude.{All, IsTrue}
use Rattle.std.proofs.lemmas.List.{append-nil, take_all, take-append-drop}
use Rattle.std.proofs.lemmas.List.Elements.{All-nil, All-cons, All-tail, All-weaker, filter-append, All-take, All-drop}
use Rattle.std.proofs.lemmas.Bool.Decides.{nat_tests}
use Rattle.beeb_bits.specs.Order.{before}
use Rattle.beeb_bits.specs.declared.Side.{Side}
use Rattle.tube_chip.specs.Events.{Rises, RisesAfter}
use Rattle.tube_chip.proofs.Merged.{rises_tail}
use Rattle.tube_trace.specs.declared.Entry.{Entry}
use Rattle.tube_trace.specs.Entries.{accesses, event_of, events_of}
use Rattle.tube_trace.specs.Text.{HasLine}
use Rattle.tube_party.specs.Transitions.{Transitions}
use Rattle.tube_party.specs.Reference.{reference, IsTraceBelow, ReferenceIsTrace}
use Rattle.tube_party.specs.ReplayLaws.{ReferenceIsReplayed}
use Rattle.tube_party.specs.GoingOn.{entries_below, ShorterRunIsBeginning}
use Rattle.tube_party.proofs.Begun.{below_none}
use Rattle.save_state.specs.Saved.{Session}
use Rattle.save_state.specs.File.{IsSession}
use Rattle.save_state.specs.Resume.{last_tick, moment_of, IsResumed, SavedRunIsResumed}

-- ---- Entries, each before the next

not_sooner : {a b : ℕ} (x y : Side) → IsTrue (before a x b y) → a ≤ b
not_sooner x y h = grind (arith, nat_tests)

abbrev IsFrom : ℕ → Entry → Type 0
IsFrom t e = t ≤ (e.tick).0

abbrev IsBelow : ℕ → Entry → Type 0
IsBelow n e = (e.tick).0 < n

-- all that follow an entry are not sooner
all_from : {t : ℕ} (x : Entry) (xs : List Entry) → t ≤ (x.tick).0 → RisesAfter (event_of x) (events_of xs) → All (IsFrom t) xs
all_from {t} x [] low rises = All-nil (IsFrom t)
all_from {t} x (y ∷ xs) low rises =
    let on : (x.tick).0 ≤ (y.tick).0 = not_sooner x.side y.side rises.0 in
    All-cons (IsFrom t) y xs (omega arith) (all_from y xs (omega arith) rises.1)

-- the tick of an entry, or 0 if there is none
abbrev tick_at : List Entry → ℕ → ℕ
tick_at xs i = slice_index_or (map (λ e. (e.tick).0) xs) i 0

-- those after the first `keep` are not sooner than one of these
behind : (keep : ℕ) (xs : List Entry) (i : ℕ) → Rises (events_of xs) → All (IsFrom (tick_at (take keep xs) i)) (drop keep xs)
behind zero xs i rises = λ k d lt. omega arith
behind (suc n) [] i rises = λ k d lt. omega arith
behind (suc n) (x ∷ xs) zero rises = All-drop (IsFrom (x.tick).0) n xs (all_from x xs (let d : ℕ = (x.tick).0 in omega arith) rises)
behind (suc n) (x ∷ xs) (suc i) rises = behind n xs i (rises_tail (event_of x) (events_of xs) rises)

-- ---- Entries below a tick

-- below one tick and then below another that is not above it
below_twice : {c at : ℕ} (xs : List Entry) → c ≤ at → entries_below c (entries_below at xs) ≡ entries_below c xs
below_twice [] le = refl
below_twice {c} {at} (x ∷ xs) le = grind (arith, nat_tests, below_twice {c = c} {at = at} xs le)

-- of the first `keep`, if none after them is below it
below_kept : {c : ℕ} (keep : ℕ) (xs : List Entry) → All (IsFrom c) (drop keep xs) → entries_below c (take keep xs) ≡ entries_below c xs
below_kept {c} keep xs high =
    sym (rw (take-append-drop keep xs, below_none c (drop keep xs) high, append-nil (entries_below c (take keep xs))) at
    (filter-append (λ (e : Entry). nat_lt (e.tick).0 c) (take keep xs) (drop keep xs)))

low_at : {n : ℕ} (k : ℕ) (xs : List Entry) → All (IsBelow n) xs → tick_at xs k ≤ n
low_at k [] low = omega arith
low_at zero (x ∷ xs) low = omega (arith, low 0 x)
low_at {n} (suc k) (x ∷ xs) low = low_at k xs (All-tail (IsBelow n) x xs low)

-- ---- The moment of a run

record IsMoment (n keep at : ℕ) (all : List Entry) : Type 0 where
  low : at ≤ n
  same : (c : ℕ) → c ≤ at → entries_below c (take keep all) ≡ entries_below c all

moment_by : {n keep : ℕ} {all : List Entry} (b : Bool) → nat_le (length all) keep ≡ b → Rises (events_of all) → All (IsBelow n) all
    → IsMoment n keep (if b then n else last_tick (take keep all)) all
moment_by {n} {keep} {all} true is rises low =
    let few : length all ≤ keep = grind (arith, nat_tests) in
    let d : ℕ = n in
    record { low = omega arith; same = λ c le. ap (entries_below c) (take_all keep all few) }
moment_by {n} {keep} {all} false is rises low =
    let last : ℕ = length (take keep all) - 1 in
    let from : ℕ = tick_at (take keep all) last in
    record {
      low = low_at last (take keep all) (All-take (IsBelow n) keep all low);
      same = λ c le. below_kept keep all (All-weaker (IsFrom from) (IsFrom c) (λ e h. omega (arith, h, le)) (drop keep all) (behind keep all last rises));
    }

module _ {S T : Type 0} (h : Transitions S) (p : Transitions T) (trace : ReferenceIsTrace h p) (replayed : ReferenceIsReplayed h p) (shorter : ShorterRunIsBeginning h p) (s : S) (t : T) where
  abbrev run : ℕ → List Entry
  run n = accesses (reference h p s t n).list

  saved_by : (n keep at : ℕ) → IsMoment n keep at (run n) → (at ≤ n) × IsResumed h p s t (entries_below at (take keep (run n))) at
  saved_by n keep at m =
      let all : List Entry = run n in
      let runs : (c : ℕ) → c ≤ at → entries_below c (entries_below at (take keep all)) ≡ run c =
      λ c le. below_twice (take keep all) le ∙ m.same c le ∙ sym (shorter s t c n (omega (arith, le, m.low))) in
      let d : ℕ = at in
      let self : at ≤ at = omega arith in (
        m.low,
        record {
          legal = rw (m.same at self, ← (shorter s t at n m.low)) (trace s t at);
          legal_before = λ c le. rw (runs c le) (trace s t c);
          agree = λ c le. rw (runs c le, (replayed s t c).0, (replayed s t c).1);
        },
      )

pub saved_run : {S T : Type 0} {h : Transitions S} {p : Transitions T} → ReferenceIsTrace h p → ReferenceIsReplayed h p → ShorterRunIsBeginning h p → SavedRunIsResumed h p
saved_run {h} {p} trace replayed shorter s t n keep =
    let all : List Entry = accesses (reference h p s t n).list in
    let is : IsTraceBelow n all = trace s t n in
    saved_by h p trace replayed shorter s t n keep (moment_of n keep all) (moment_by (nat_le (length all) keep) refl is.rises is.below)

-- a session that keeps the rules keeps them with another moment, and with the accesses of a trace
-- below it
pub keeps_rules : {b : Session} {at : ℕ} {entries : List Entry} → IsSession b → at ≤ 1073741824 → length entries ≤ 4194304 → All HasLine entries →
    IsTraceBelow at entries → IsSession (record b { ticks = at; entries = entries })
keeps_rules begun most few lines trace = record {
  ticks = most;
  plugs = begun.plugs;
  many = begun.many;
  both = begun.both;
  first = begun.first;
  disc0 = begun.disc0;
  disc1 = begun.disc1;
  keys = begun.keys;
  few = few;
  lines = lines;
  below = trace.below;
  rises = trace.rises;
}
