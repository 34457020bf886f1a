-- The entries of a trace below a tick, and the session of a run.
use Rattle.std.proofs.Common.{◌≡◌, ◌∙◌, refl, ap, subst, ℕ, zero, suc, ◌+◌, ◌-◌, ◌<◌, ◌≤◌, length, take, drop, map, List, [], ◌∷◌, ◌++◌, Bool}
use Rattle.std.proofs.Common.{true, false, IsTrue, nat_lt, slice_index_or, All, arith, append-nil, if◌then◌else◌}
use Rattle.std.proofs.lemmas.List.{drop_more, length-take}
use Rattle.std.proofs.lemmas.List.Elements.{All-nil, All-cons, All-head, All-tail, All-take}
use Rattle.std.proofs.lemmas.Bool.Decides.{nat_tests}
use Rattle.beeb_bits.specs.Order.{before}
use Rattle.beeb_bits.specs.declared.Side.{Side}
use Rattle.tube_chip.specs.State.{State, power_on}
use Rattle.tube_chip.specs.Act.{act, access}
use Rattle.tube_chip.specs.Events.{Rises, RisesAfter, IsAnsweredFrom}
use Rattle.tube_chip.proofs.Merged.{rises_tail}
use Rattle.tube_trace.specs.declared.Entry.{Entry}
use Rattle.tube_trace.specs.Entries.{IsEntry, event_of, events_of}
use Rattle.tube_trace.specs.Text.{HasLine}
use Rattle.tube_trace.proofs.MergeLemmas.{Rises-take}
use Rattle.tube_party.specs.Reference.{IsTraceBelow}
use Rattle.tube_party.specs.GoingOn.{entries_below}
use Rattle.save_state.specs.Saved.{Session}
use Rattle.save_state.specs.File.{IsSession}
use Rattle.save_state.proofs.Again.{keeps_rules}
use Rattle.cmd_ended.specs.Save.{saved_tick, saved_of}
use Rattle.cmd_ended.proofs.KeptLemmas.{Below, events_take, all_lines}

-- ---- of entries, each before the next, those below a tick are the first

not_sooner : (a b : ℕ) (x y : Side) → IsTrue (before a x b y) → a ≤ b
not_sooner a b x y h = grind (arith, nat_tests)

drop_rises : (i : ℕ) (xs : List Entry) → Rises (events_of xs) → Rises (events_of (drop i xs))
drop_rises zero xs rises = rises
drop_rises (suc i) [] rises = tt
drop_rises (suc i) (x ∷ xs) rises = drop_rises i xs (rises_tail (event_of x) (events_of xs) rises)

none_after : (t : ℕ) (x : Entry) (xs : List Entry) → t ≤ (x.tick).0 → RisesAfter (event_of x) (events_of xs) → entries_below t xs ≡ []
none_after t x [] late rises = refl
none_after t x (y ∷ xs) late rises =
    let later : t ≤ (y.tick).0 = omega (arith, late, not_sooner (x.tick).0 (y.tick).0 x.side y.side rises.0) in
    let none = none_after t y xs later rises.1 in
    grind (arith, nat_tests)

-- none from here on
pub none_from : (t : ℕ) (x : Entry) (xs : List Entry) → t ≤ (x.tick).0 → Rises (events_of (x ∷ xs)) → entries_below t (x ∷ xs) ≡ []
none_from t x xs late rises = let none = none_after t x xs late rises in grind (arith, nat_tests)

pub count_here : (t i : ℕ) (xs : List Entry) (d : Entry) → i < length xs → t ≤ ((slice_index_or xs i d).tick).0 → Rises (events_of xs) →
    entries_below t xs ≡ take i xs ++ entries_below t (drop i xs) → entries_below t xs ≡ take i xs
count_here t i xs d h late rises is =
    is
    ∙ ap (λ ys. take i xs ++ entries_below t ys) (drop_more xs i d h)
    ∙ ap (λ ys. take i xs ++ ys)
    (none_from t (slice_index_or xs i d) (drop (i + 1) xs) late (subst (λ (ys : List Entry). Rises (events_of ys)) (drop_more xs i d h) (drop_rises i xs rises)))
    ∙ append-nil (take i xs)

-- ---- the first entries of a trace are a trace

answered_take : (k : ℕ) (c : State) (xs : List Entry) → IsAnsweredFrom c (events_of xs) → IsAnsweredFrom c (events_of (take k xs))
answered_take (suc k) c (x ∷ xs) answered = (answered.0, answered_take k (act c x.side (access x.op)).0 xs answered.1)
answered_take zero c xs answered = tt
answered_take k c [] answered = tt

below_by : (t : ℕ) (b : Bool) (x : Entry) (ys : List Entry) → nat_lt (x.tick).0 t ≡ b → All (Below t) ys →
    All (Below t) (if b then x ∷ ys else ys)
below_by t true x ys is all = All-cons (Below t) x ys (grind (arith, nat_tests)) all
below_by t false x ys is all = all

all_below : (t : ℕ) (xs : List Entry) → All (Below t) (entries_below t xs)
all_below t [] = All-nil (Below t)
all_below t (x ∷ xs) = below_by t (nat_lt (x.tick).0 t) x (entries_below t xs) refl (all_below t xs)

pub first_of_trace : (t k n : ℕ) (xs ys : List Entry) → ys ≡ take k xs → entries_below t xs ≡ take k xs → IsTraceBelow n xs → IsTraceBelow t ys
first_of_trace t k n xs ys taken is trace =
    rw taken (record {
      entries = All-take IsEntry k xs trace.entries;
      rises = rw events_take (Rises-take k (events_of xs) trace.rises);
      below = rw is at (all_below t xs);
      answered = answered_take k power_on xs trace.answered;
    })

pub take_trace : (k n : ℕ) (xs ys : List Entry) → ys ≡ take k xs → IsTraceBelow n xs → IsTraceBelow n ys
take_trace k n xs ys taken trace =
    rw taken (record {
      entries = All-take IsEntry k xs trace.entries;
      rises = rw events_take (Rises-take k (events_of xs) trace.rises);
      below = All-take (Below n) k xs trace.below;
      answered = answered_take k power_on xs trace.answered;
    })

pub take_few : {A : Type 0} (k most : ℕ) (xs ys : List A) → ys ≡ take k xs → k ≤ most → length ys ≤ most
take_few {A} k most xs ys is few = rw is (omega (arith, length-take {A = A}))

-- ---- the session of a run

pub trace_lines : (n : ℕ) (xs : List Entry) → n ≤ 1073741824 → IsTraceBelow n xs → All HasLine xs
trace_lines n xs most trace = all_lines power_on n xs most trace.entries trace.below trace.answered

low_at : (n k : ℕ) (xs : List Entry) → All (Below n) xs → slice_index_or (map (λ (e : Entry). (e.tick).0) xs) k 0 ≤ n
low_at n k [] below = omega arith
low_at n zero (x ∷ xs) below = omega (arith, All-head (Below n) x xs below)
low_at n (suc k) (x ∷ xs) below = low_at n k xs (All-tail (Below n) x xs below)

tick_low : (n : ℕ) (all : Bool) (xs : List Entry) → All (Below n) xs → saved_tick n all xs ≤ n
tick_low n true xs below = omega arith
tick_low n false xs below = low_at n (length xs - 1) xs below

-- the session of a run keeps the rules
pub saved_is : (b s : Session) (n : ℕ) (all : Bool) (k : ℕ) (kept : List Entry) → IsSession b → n ≤ 1073741824 → length kept ≤ 4194304 → IsTraceBelow n kept →
    entries_below (saved_tick n all kept) kept ≡ take k kept → s ≡ saved_of b n all kept → IsSession s
unfolding saved_of
saved_is b s n all k kept begun most few trace first is =
    let t : ℕ = saved_tick n all kept in
    let low : t ≤ n = tick_low n all kept trace.below in
    let mine : IsTraceBelow t (entries_below t kept) = first_of_trace t k n kept (entries_below t kept) first first trace in
    let fewer : length (entries_below t kept) ≤ 4194304 = rw first (omega (arith, length-take k kept)) in
    let end : t ≤ 1073741824 = omega (arith, low, most) in
    rw is (keeps_rules begun end fewer (trace_lines t (entries_below t kept) end mine) mine)
