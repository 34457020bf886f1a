-- What a side observes that goes ahead on its own: parts of it, and the runs that make it.
use Rattle.std.proofs.Common.{ℕ, zero, suc, ◌≡◌, ◌+◌, ◌<◌, ◌≤◌, ◌==◌, nat_lt, true, false, cond, refl, sym, ◌∙◌, ap, subst, arith, List, [], ◌∷◌, ◌++◌, Option, None, Some}
use Rattle.std.proofs.Common.{slice_index}
use Rattle.std.proofs.lemmas.Bool.Decides.{nat_tests}
use Rattle.beeb_bits.specs.declared.Side.{Side}
use Rattle.tube_chip.specs.declared.Answer.{Answer}
use Rattle.tube_chip.specs.declared.Answer.TheVariants.{Byte, Seen}
use Rattle.tube_chip.specs.declared.Lines.{Lines}
use Rattle.tube_chip.specs.declared.Op.{Op}
use Rattle.tube_chip.specs.declared.Op.TheVariants.{Read, Write, Reset}
use Rattle.tube_chip.specs.State.{State}
use Rattle.tube_chip.specs.Act.{Query, access, look, act}
use Rattle.tube_chip.specs.Events.{Event}
use Rattle.tube_trace.specs.Entries.{accesses}
use Rattle.tube_cell.specs.declared.local.Readings.{Readings}
use Rattle.tube_cell.specs.Views.{AllBelow, below, is_observation, shown_to}
use Rattle.tube_cell.specs.Steps.{Watches}
use Rattle.tube_party.specs.Transitions.{Transitions, IsLawful, Runs, shown_lines, execution}
use Rattle.tube_side.specs.CodeSteps.{event_at}
use Rattle.session.specs.CodeSight.{Sight, byte_seen, byte_answer, readings_seen, joins, observed_by, observed_events, IsSeen}
use Rattle.tube_cell.proofs.Law.{by_lt, nat_lt-true, nat_lt-false, low_cons, low_head, low_nil, low_tail}
use Rattle.tube_party.proofs.Runs.{Steps, Over, Silent, Asking, Glances, Here, Past, Seeing}
use Rattle.session.proofs.Runs.{along}

-- what a query sees is what the chip answers to an observation
abbrev pub Shows : State → Side → Sight → Type 0
Shows c side v = (q : Query) (a : Answer) → v q ≡ Some a → (is_observation q ≡ true) × ((act c side q).1 ≡ a)

-- what holds of two lists of events holds of one after the other
pub seen_on : (v : Sight) (xs ys : List Event) → IsSeen v xs → IsSeen v ys → IsSeen v (xs ++ ys)
seen_on v [] ys a b = b
seen_on v (x ∷ xs) ys a b = (a.0, seen_on v xs ys a.1 b)

module _ {S : Type 0} {m : Transitions S} (lawful : IsLawful m) (side : Side) (v : Sight) where
  abbrev silent : S → S
  silent s = m.next s None

  abbrev after : S → Answer → S
  after s a = m.next s (Some a)

  abbrev observed : ℕ → ℕ → S → List Event
  observed limit k s = observed_events m side v limit k s

  -- after a step that has this answer
  abbrev later : ℕ → ℕ → S → Answer → List Event
  later limit k s a = observed limit k (after s a)

  -- by what the step asks
  abbrev observed_as : ℕ → ℕ → S → Option Query → List Event
  observed_as limit k s o = observed_by v side (m.due s) (observed limit k (silent s)) (later limit k s) o

  -- what holds of no events, after a step that asks nothing, and with the event of an answered step
  -- in front, holds of what is observed
  by_step : (P : List Event → Type 0) (limit k : ℕ) (s : S) → P []
      → (m.due s < limit → m.asks s ≡ None → P (observed limit k (silent s)))
      → ((q : Query) (a : Answer) → m.due s < limit → m.asks s ≡ Some q → v q ≡ Some a → P (event_at (m.due s) side q a ∷ later limit k s a))
      → P (observed limit (suc k) s)
  by_step P limit k s none on asked = by_lt (m.due s) limit (λ b. P (cond b (observed_as limit k s (m.asks s)) [])) (λ lt. by_ask lt (m.asks s) refl) (λ _. none)
    where
      by_answer : m.due s < limit → (q : Query) → m.asks s ≡ Some q → (o : Option Answer) → v q ≡ o → P (joins side (m.due s) q (later limit k s) o)
      by_answer lt q is None sees = none
      by_answer lt q is (Some a) sees = asked q a lt is sees

      by_ask : m.due s < limit → (o : Option Query) → m.asks s ≡ o → P (observed_as limit k s o)
      by_ask lt None is = on lt is
      by_ask lt (Some q) is = by_answer lt q is (v q) refl

  -- none from the limit on
  pub none_late : (limit k : ℕ) (s : S) → limit ≤ m.due s → observed limit k s ≡ []
  none_late limit zero s le = refl
  none_late limit (suc k) s le = rw (nat_lt-false (m.due s) limit le) refl

  -- enough steps are enough
  pub enough : (limit j k : ℕ) (s : S) → limit ≤ m.due s + j → limit ≤ m.due s + k → observed limit j s ≡ observed limit k s
  enough limit zero k s a b = sym (none_late limit k s (omega arith))
  enough limit (suc j) zero s a b = none_late limit (suc j) s (omega arith)
  enough limit (suc j) (suc k) s a b =
      let x : m.due s < m.due (silent s) = lawful.rises s None in
      let p = enough limit j k (silent s) (omega arith) (omega arith) in
      let q : (y : Answer) → later limit j s y ≡ later limit k s y =
      λ y. let z : m.due s < m.due (after s y) = lawful.rises s (Some y) in enough limit j k (after s y) (omega arith) (omega arith) in
      (λ i. cond (nat_lt (m.due s) limit) (observed_by v side (m.due s) (p i) (λ y. q y i) (m.asks s)) [])

  -- each is below the limit
  pub below_limit : (limit k : ℕ) (s : S) → AllBelow limit (observed limit k s)
  below_limit limit zero s = low_nil
  below_limit limit (suc k) s =
      by_step (AllBelow limit) limit k s low_nil (λ _ _. below_limit limit k (silent s)) (λ q a lt _ _. low_cons _ _ lt (below_limit limit k (after s a)))

  -- a cut before all of them yields none
  cut_early : (t limit k : ℕ) (s : S) → t ≤ m.due s → below t (observed limit k s) ≡ []
  cut_early t limit zero s le = refl
  cut_early t limit (suc k) s le =
      by_step (λ l. below t l ≡ []) limit k s refl
      (λ _ _. let x : m.due s < m.due (silent s) = lawful.rises s None in cut_early t limit k (silent s) (omega arith))
      (λ q a _ _ _. rw (nat_lt-false (m.due s) t le) refl)

  cut_by : (t at : ℕ) (xs : List Event) {us : List Event} (ys vs : Answer → List Event) (o : Option Query) → at < t → below t xs ≡ us → ((a : Answer) → below t (ys a) ≡ vs a)
      → below t (observed_by v side at xs ys o) ≡ observed_by v side at us vs o
  cut_by t at xs ys vs None lt e f = e
  cut_by t at xs ys vs (Some q) lt e f = elim (v q) as (λ o. below t (joins side at q ys o) ≡ joins side at q vs o) [
    | None ↦ refl
    | Some a ↦ rw (nat_lt-true at t lt) (ap (λ l. event_at at side q a ∷ l) (f a))
  ]

  -- cut at an earlier tick they are those below it
  pub cut : (t limit k : ℕ) (s : S) → t ≤ limit → below t (observed limit k s) ≡ observed t k s
  cut t limit zero s le = refl
  cut t limit (suc k) s le =
      by_lt (m.due s) t (λ b. below t (observed limit (suc k) s) ≡ cond b (observed_as t k s (m.asks s)) [])
      (λ lt. rw (nat_lt-true (m.due s) limit (omega arith))
      (cut_by t (m.due s) (observed limit k (silent s)) (later limit k s) (later t k s) (m.asks s) lt (cut t limit k (silent s) le) (λ a. cut t limit k (after s a) le)))
      (λ ge. cut_early t limit (suc k) s ge)

  -- ---- they are observations of a chip that shows what they see

  pub watches : (c : State) (limit k : ℕ) (s : S) (from : ℕ) → Shows c side v → from ≤ m.due s → Watches side from c (observed limit k s) limit
  watches c limit zero s from shows le = tt
  watches c limit (suc k) s from shows le =
      by_step (λ l. Watches side from c l limit) limit k s tt
      (λ _ _. let x : m.due s < m.due (silent s) = lawful.rises s None in watches c limit k (silent s) from shows (omega arith))
      (λ q a lt _ sees.
      let h = shows q a sees in
      let x : m.due s < m.due (after s a) = lawful.rises s (Some a) in
      (refl, h.0, le, lt, h.1, watches c limit k (after s a) (m.due s + 1) shows (omega arith)))

  -- ---- a run whose queries see what they see is what is observed

  module _ (n limit : ℕ) (last : S) (stops : (k : ℕ) → observed limit k last ≡ []) where
    -- a step that asks nothing, below the limit or not
    silent_same : (fuel : ℕ) (s : S) → m.asks s ≡ None → limit ≤ m.due s + fuel → observed limit fuel (silent s) ≡ observed limit fuel s
    silent_same zero s is far = refl
    silent_same (suc j) s is far =
        let x : m.due s < m.due (silent s) = lawful.rises s None in
        by_lt (m.due s) limit (λ b. observed limit (suc j) (silent s) ≡ cond b (observed_as limit j s (m.asks s)) [])
        (λ lt. rw is (enough limit (suc j) j (silent s) (omega arith) (omega arith)))
        (λ ge. none_late limit (suc j) (silent s) (omega arith))

    first_by : (fuel : ℕ) (s : S) (e : Event) (rest : List Event) → m.asks s ≡ Some e.query → e.tick < limit → limit ≤ m.due s + fuel → e.tick ≡ m.due s → e.side ≡ side
        → v e.query ≡ Some e.answer → ((j : ℕ) → limit ≤ m.due (after s e.answer) + j → rest ≡ later limit j s e.answer) → e ∷ rest ≡ observed limit fuel s
    first_by zero s e rest is lt far at own sees on = absurd (omega arith)
    first_by (suc j) s e rest is lt far at own sees on =
        let y : m.due s < m.due (after s e.answer) = lawful.rises s (Some e.answer) in
        rw (nat_lt-true (m.due s) limit (omega arith), is, sees) (λ i. event_at (at i) (own i) e.query e.answer ∷ on j (omega arith) i)

    -- If its events are below the limit, and nothing is observed below it at its end, they are what
    -- is observed.
    pub made : (k fuel : ℕ) (s : S) (events : List Event) → Runs m side n k s (execution events last) → IsSeen v events → AllBelow limit events → limit ≤ m.due s + fuel
        → events ≡ observed limit fuel s
    made k fuel s events runs seen low far =
        along m side n last (λ s es. IsSeen v es → AllBelow limit es → (more : ℕ) → limit ≤ m.due s + more → es ≡ observed limit more s) (λ _ _ more _. sym (stops more))
        (λ s es _ is on seen low more far.
        let x : m.due s < m.due (silent s) = lawful.rises s None in
        on seen low more (omega arith) ∙ silent_same more s is far)
        (λ s e es _ at own is on seen low more far. first_by more s e es is (low_head e es low) far at own seen.0 (on seen.1 (low_tail e es low)))
        k s events runs seen low fuel far

  -- nothing is observed from a step on whose query is not answered
  pub stops_at : (limit k : ℕ) (s : S) (q : Query) → m.asks s ≡ Some q → v q ≡ None → observed limit k s ≡ []
  stops_at limit zero s q is none = refl
  stops_at limit (suc k) s q is none = by_step (λ l. l ≡ []) limit k s refl (λ _ bare. absurd (cc)) (λ x a _ asks sees. absurd (cc))

  -- ---- a run among looks

  module _ (n : ℕ) (lines : Lines) (sees_lines : v look ≡ Some (Seen lines)) where
    -- its events: each is a look below a tick, and sees the lines
    pub record IsLooks (safe_until : ℕ) (s last : S) : Type 0 where
      pub events : List Event
      pub runs : Steps m side n last s events
      pub seen : IsSeen v events
      pub silent : accesses events ≡ []
      pub low : AllBelow safe_until events

    pub looked : {safe_until : ℕ} {last s : S} → Glances m n (shown_lines lines safe_until) last s → IsLooks safe_until s last
    looked Here = record { events = []; runs = Over; seen = tt; silent = refl; low = low_nil }
    looked (Past low none on) =
        let r = looked on in
        record { events = r.events; runs = Silent low none r.runs; seen = r.seen; silent = r.silent; low = r.low }
    looked (Seeing {s = s} low is before on) =
        let r = looked on in
        let e : Event = event_at (m.due s) side look (Seen lines) in
        record {
          events = e ∷ r.events;
          runs = Asking look (Seen lines) low is r.runs;
          seen = (sees_lines, r.seen);
          silent = r.silent;
          low = low_cons e r.events before r.low;
        }

-- ---- what chips show

beq_yes : (m n : ℕ) → (m == n) ≡ true → m ≡ n
beq_yes m n h = grind (arith, nat_tests)

module _ (c : State) (side : Side) (number : ℕ) (a : Answer) where
  abbrev IsShown : ℕ → Type 0
  IsShown k = (is_observation (access (Read k)) ≡ true) × ((act c side (access (Read k))).1 ≡ a)

  abbrev byte : ℕ → ℕ
  byte i = slice_index (shown_to side c).status i

  -- a status register, by its number, and those after it
  one_shows : (k byte : ℕ) (rest : Option ℕ) → is_observation (access (Read k)) ≡ true → (act c side (access (Read k))).1 ≡ Byte byte
      → (byte_answer rest ≡ Some a → IsShown number) → byte_answer (cond (number == k) (Some byte) rest) ≡ Some a → IsShown number
  one_shows k byte rest status answers later =
      (elim (number == k) as (λ b. (number == k) ≡ b → byte_answer (cond b (Some byte) rest) ≡ Some a → IsShown number) [
        | true ↦ λ h e. let is : Byte byte ≡ a = cc in subst IsShown (sym (beq_yes number k h)) (status, answers ∙ is)
        | false ↦ λ h. later
      ]) refl

  abbrev fourth : Option ℕ
  fourth = cond (number == 6) (Some (byte 3)) None

  abbrev third : Option ℕ
  third = cond (number == 4) (Some (byte 2)) fourth

  abbrev second : Option ℕ
  second = cond (number == 2) (Some (byte 1)) third

  read_shows : byte_answer (byte_seen (shown_to side c).status (Read number)) ≡ Some a → IsShown number
  read_shows =
      one_shows 0 (byte 0) second refl refl
      (one_shows 2 (byte 1) third refl refl (one_shows 4 (byte 2) fourth refl refl (one_shows 6 (byte 3) None refl refl (λ e. absurd (cc)))))

access_shows : (c : State) (side : Side) (op : Op) (a : Answer) → byte_answer (byte_seen (shown_to side c).status op) ≡ Some a
    → (is_observation (access op) ≡ true) × ((act c side (access op)).1 ≡ a)
access_shows c side (Read number) a e = read_shows c side number a e
access_shows c side (Write number written) a e = absurd (cc)
access_shows c side Reset a e = absurd (cc)

pub readings_show : (c : State) (side : Side) {r : Readings} → r ≡ shown_to side c → Shows c side (readings_seen r)
readings_show c side is = rw is shows
  where
    shows : Shows c side (readings_seen (shown_to side c))
    shows look a e = (refl, cc)
    shows (access op) a e = access_shows c side op a e

-- what a side will observe, as its chip shows it
pub watches_shown : {S : Type 0} {m : Transitions S} (lawful : IsLawful m) (side : Side) (c : State) {r : Readings} (end : ℕ) (s : S) (from : ℕ) {events : List Event}
    → r ≡ shown_to side c → events ≡ observed_events m side (readings_seen r) end end s → from ≤ m.due s → Watches side from c events end
watches_shown lawful side c {r} end s from shown is le =
    rw is (watches lawful side (readings_seen r) c end end s from (readings_show c side shown) le)
