-- The breaks of a script before a place, and those up to a tick.
use Rattle.std.proofs.Common.{◌≡◌, ◌∙◌, sym, refl, ℕ, ◌+◌, ◌<◌, ◌≤◌, zero, suc, Bool, true, false, cond}
use Rattle.std.proofs.Common.{nat_lt, zero-add, List, [], ◌∷◌, ◌++◌, All, length, drop, take, get_or, filter, count_by, Some, None, inl, inr, if◌then◌else◌, arith}
use Rattle.std.proofs.lemmas.Bool.{cases_lt, cases_Bool, le-leb, lt-leb, lt-ltb}
use Rattle.std.proofs.lemmas.List.{drop_more, take-append-drop}
use Rattle.std.proofs.lemmas.List.Elements.{filter-append, All-drop}
use Rattle.std.proofs.lemmas.List.Sums.{sum_by-cons, sum_by-take-drop, length-filter}
use Rattle.std.proofs.Math.Bool.{and-true, and-false}
use Rattle.std.proofs.Math.Seq.{drop-append_seam}
use Rattle.key_script.specs.declared.Event.{Event}
use Rattle.key_script.specs.Events.{tick_of, NeverFallsFrom, IsEvent, IsScript}
use Rattle.host_devices.specs.Breaks.{is_break, is_break_by, breaks_until, first_tick, break_number}
use Rattle.host_devices.specs.CodeBreaks.{breaks_before, break_tick}

-- one more event before the others
count-first : (p : Event → Bool) (e : Event) (events : List Event) → count_by p (e ∷ events) ≡ cond (p e) 1 0 + count_by p events
count-first p e events =
    sum_by-cons (λ (x : Event). cond (p x) 1 0) e events

skipped : (p : Event → Bool) {e : Event} (events : List Event) → p e ≡ false → count_by p (e ∷ events) ≡ count_by p events
skipped p {e} events is = rw (count-first p e events, is) (zero-add (count_by p events))

-- if the event's tick is at most t, a break is one up to t
agree : {t : ℕ} (e : Event) → tick_of e ≤ t → is_break_by t e ≡ is_break e
agree {t} e low = rw (le-leb (tick_of e) t low) (and-true (is_break e))

none-by : (t from : ℕ) (events : List Event) → NeverFallsFrom from events → t < from → count_by (is_break_by t) events ≡ 0
none-by t from [] order low = refl
none-by t from (e ∷ events) order low =
    skipped (is_break_by t) events (rw (lt-leb (tick_of e) t (omega (arith, order.0, low))) (and-false (is_break e)))
    ∙ none-by t (tick_of e) events order.1 (omega (arith, order.0, low))

tick-here : (e : Event) (events : List Event) → is_break e ≡ true → break_tick (e ∷ events) ≡ tick_of e
tick-here e events is = rw is refl

tick-later : (e : Event) (events : List Event) → is_break e ≡ false → break_tick (e ∷ events) ≡ break_tick events
tick-later e events is = rw is refl

-- no break comes before the tick of the first
pub none-left : {t : ℕ} (from : ℕ) (events : List Event) → NeverFallsFrom from events → t < break_tick events → count_by (is_break_by t) events ≡ 0
none-left from [] order low = refl
none-left {t} from (e ∷ events) order low =
    elim (cases_Bool (is_break e)) [
      | inl is ↦ none-by t (tick_of e) (e ∷ events) (omega arith, order.1) (omega (arith, tick-here e events is, low))
      | inr is ↦
          skipped (is_break_by t) events (rw is refl)
          ∙ none-left (tick_of e) events order.1 (omega (arith, tick-later e events is, low))
    ]

-- from the tick of the first break on, there is a break up to that tick
some-left : {t : ℕ} (events : List Event) → break_tick events ≤ t → t < 18446744073709551615 → 0 < count_by (is_break_by t) events
some-left [] low room = absurd (omega (arith, low, room))
some-left {t} (e ∷ events) low room =
    elim (cases_Bool (is_break e)) [
      | inl is ↦
          rw (count-first (is_break_by t) e events, agree {t = t} e (omega (arith, tick-here e events is, low)) ∙ is) (omega arith)
      | inr is ↦
          rw (skipped (is_break_by t) {e = e} events (rw is refl)) (some-left events (omega (arith, tick-later e events is, low)) room)
    ]

-- if a break after a place is up to t, so are all events before the place
early : (t from : ℕ) (place : ℕ) (events : List Event) → NeverFallsFrom from events → break_tick (drop place events) ≤ t → t < 18446744073709551615 → from ≤ t
early t from zero [] order low room = absurd (omega (arith, low, room))
early t from (suc place) [] order low room = absurd (omega (arith, low, room))
early t from zero (e ∷ events) order low room =
    elim (cases_Bool (is_break e)) [
      | inl is ↦ omega (arith, order.0, tick-here e events is, low)
      | inr is ↦
          let rest = early t (tick_of e) zero events order.1 (omega (arith, tick-later e events is, low)) room in
          omega (arith, order.0, rest)
    ]
early t from (suc place) (e ∷ events) order low room =
    let rest = early t (tick_of e) place events order.1 low room in
    omega (arith, order.0, rest)

pub all-before : {t : ℕ} (from : ℕ) (place : ℕ) (events : List Event) → NeverFallsFrom from events → break_tick (drop place events) ≤ t → t < 18446744073709551615 →
    count_by (is_break_by t) (take place events) ≡ breaks_before place events
all-before from zero events order low room = refl
all-before from (suc place) [] order low room = refl
all-before {t} from (suc place) (e ∷ events) order low room =
    let same = agree e (early t (tick_of e) place events order.1 low room) in
    rw (count-first (is_break_by t) e (take place events), same, all-before (tick_of e) place events order.1 low room) (sym (count-first is_break e (take place events)))

-- those up to a tick are those before a place, if none comes from there on
pub all-taken : (t place : ℕ) (events : List Event) → count_by (is_break_by t) (take place events) ≡ breaks_before place events →
    count_by (is_break_by t) (drop place events) ≡ 0 → breaks_until t events ≡ breaks_before place events
all-taken t place events so none =
    let sum = sum_by-take-drop (λ (x : Event). cond (is_break_by t x) 1 0) events place in omega arith

drop-order : (place from : ℕ) (events : List Event) → NeverFallsFrom from events → NeverFallsFrom 0 (drop place events)
drop-order zero from (e ∷ events) order = (omega arith, order.1)
drop-order zero from [] order = tt
drop-order (suc place) from [] order = tt
drop-order (suc place) from (e ∷ events) order = drop-order place (tick_of e) events order.1

pub none-behind : {t : ℕ} (place : ℕ) (events : List Event) → NeverFallsFrom 0 events → t < break_tick (drop place events) → count_by (is_break_by t) (drop place events) ≡ 0
none-behind place events order low = none-left 0 (drop place events) (drop-order place 0 events order) low

-- from an event with a tick above t on, no break is up to t
pub none-come : {t place : ℕ} (events : List Event) (d : Event) → NeverFallsFrom 0 events → place < length events → t < tick_of (get_or events place d) →
    count_by (is_break_by t) (drop place events) ≡ 0
none-come {t} {place} events d order low late =
    let e = get_or events place d in
    let falls = rw (drop_more events place d low) at (drop-order place 0 events order) in
    rw (drop_more events place d low) (none-by t (tick_of e) (e ∷ drop (place + 1) events) (omega arith, falls.1) late)

-- below the tick of the first break from a place on, no break is pending if those before the place
-- are taken
pub few-below : (t place : ℕ) (events : List Event) → breaks_until t events ≤ breaks_before place events + count_by (is_break_by t) (drop place events)
few-below t place events =
    let sum = sum_by-take-drop (λ (x : Event). cond (is_break_by t x) 1 0) events place in
    let few = fewer t (take place events) in
    omega (arith, sum, few)
  where
    fewer : (t : ℕ) (l : List Event) → count_by (is_break_by t) l ≤ count_by is_break l
    fewer t [] = omega arith
    fewer t (e ∷ l) = grind (arith, fewer t l, count-first (is_break_by t) e l, count-first is_break e l)

pub not-pending : (t place : ℕ) (events : List Event) → NeverFallsFrom 0 events → t < break_tick (drop place events) → nat_lt (breaks_before place events) (breaks_until t events) ≡ false
not-pending t place events order low =
    let all : breaks_until t events ≤ breaks_before place events = omega (arith, none-behind place events order low, few-below t place events) in
    grind arith

pub pending : (t place : ℕ) (events : List Event) → NeverFallsFrom 0 events → break_tick (drop place events) ≤ t → t < 18446744073709551615 →
    nat_lt (breaks_before place events) (breaks_until t events) ≡ true
pending t place events order low room =
    let so = all-before 0 place events order low room in
    let some = some-left (drop place events) low room in
    let sum = sum_by-take-drop (λ (x : Event). cond (is_break_by t x) 1 0) events place in
    let more : breaks_before place events < breaks_until t events = omega (arith, so, some, sum) in
    grind arith

-- the next break after those before a place is the first from there on
pub number-is : (place : ℕ) (events : List Event) → break_number (breaks_before place events) events ≡ first_tick (filter is_break (drop place events))
number-is place events =
    let before = filter is_break (take place events) in
    let behind = filter is_break (drop place events) in
    let all : filter is_break events ≡ before ++ behind = rw (← filter-append is_break (take place events) (drop place events), take-append-drop place events) refl in
    rw (all, ← length-filter is_break (take place events), drop-append_seam before behind) refl

-- the tick of a first break is below 2^64 - 1, so that number means that there is none
tick-is : (events : List Event) → All IsEvent events → first_tick (filter is_break events) ≡ (if nat_lt (break_tick events) 18446744073709551615 then Some (break_tick events) else None)
tick-is [] all = refl
tick-is (e ∷ events) all = elim (cases_Bool (is_break e)) [
  | inl is ↦ rw (is, lt-ltb (tick_of e) 18446744073709551615 (omega (arith, (all 0 e (omega arith)).tick))) refl
  | inr is ↦ rw is (tick-is events (λ k d h. all (suc k) d (omega (arith, h))))
]

-- the tick of the next break, as the code has it
pub next-is : (place : ℕ) {events : List Event} → IsScript events →
    break_number (breaks_before place events) events ≡ (if nat_lt (break_tick (drop place events)) 18446744073709551615 then Some (break_tick (drop place events)) else None)
next-is place {events} rules = number-is place events ∙ tick-is (drop place events) (All-drop IsEvent place events rules.each)

-- if one is pending, the tick of the first one is at most t
pub pending-due : (t place : ℕ) (events : List Event) → NeverFallsFrom 0 events → nat_lt (breaks_before place events) (breaks_until t events) ≡ true → break_tick (drop place events) ≤ t
pending-due t place events order is =
    elim (cases_lt t (break_tick (drop place events))) [
      | inl less ↦ let no : true ≡ false = sym is ∙ not-pending t place events order less in cc
      | inr more ↦ more
    ]
