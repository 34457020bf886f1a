-- The steps of a run, one at a time.
use Rattle.std.proofs.Common.{ℕ, zero, suc, ◌≡◌, ◌<◌, ◌≤◌, refl, sym, ◌∙◌, ap, subst, arith, max, List, [], ◌∷◌, ◌++◌, Option, None, Some, MatchOption}
use Rattle.tube_chip.specs.Act.{Query, look}
use Rattle.tube_chip.specs.Events.{Event}
use Rattle.tube_chip.specs.declared.Answer.{Answer}
use Rattle.tube_chip.specs.declared.Answer.TheVariants.{Seen}
use Rattle.tube_chip.specs.declared.Op.{Op}
use Rattle.beeb_bits.specs.declared.Side.{Side}
use Rattle.tube_party.specs.Transitions.{Transitions, IsLawful, IsClosing, Runs, Looks, Shown, IsAnswered, PortRun, Heads, close_leaves, execution}
use Rattle.tube_party.specs.CodeClosing.{IsShut, FollowsOn}

abbrev pub event : ℕ → Side → Query → Answer → Event
event t side q a = record { tick = t; side = side; query = q; answer = a }

abbrev pub IsOf : Side → Event → Type 0
IsOf side e = e.side ≡ side

-- steps to last, each below n, from a state, and their events: as `Runs`, to be taken apart step by
-- step
pub data Steps {S : Type 0} (r : Transitions S) (side : Side) (n : ℕ) (last : S) : S → List Event → Type 0 where
  Over : Steps r side n last last []
  Silent : {s : S} {events : List Event} → r.due s < n → r.asks s ≡ None → Steps r side n last (r.next s None) events → Steps r side n last s events
  Asking : {s : S} {others : List Event} (q : Query) (a : Answer) → r.due s < n → r.asks s ≡ Some q → Steps r side n last (r.next s (Some a)) others
      → Steps r side n last s (event (r.due s) side q a ∷ others)

-- some number of steps
abbrev pub SomeRuns : {S : Type 0} → Transitions S → Side → ℕ → S → List Event → S → Type 0
SomeRuns r side n s events m = (k : ℕ) × Runs r side n k s (execution events m)

-- an event is known by its parts
same_event : (e : Event) (t : ℕ) (side : Side) (q : Query) → e.tick ≡ t → e.side ≡ side → e.query ≡ q → e ≡ event t side q e.answer
same_event e t side q et es eq = grind arith

module _ {S : Type 0} (r : Transitions S) (side : Side) (n : ℕ) where
  abbrev Then : ℕ → S → List Event → S → Option Query → Type 0
  Then k s events m o =
      MatchOption o
      (Runs r side n k (r.next s None) (execution events m))
      (λ q. Heads events (λ e others. (e.tick ≡ r.due s) × (e.side ≡ side) × (e.query ≡ q) × Runs r side n k (r.next s (Some e.answer)) (execution others m)))

  steps_by : (k : ℕ) (s last : S) (events : List Event) (o : Option Query)
      → ((u : S) (others : List Event) → Runs r side n k u (execution others last) → Steps r side n last u others)
      → r.due s < n → r.asks s ≡ o → Then k s events last o → Steps r side n last s events
  steps_by k s last events None on low is h = Silent low is (on (r.next s None) events h)
  steps_by k s last [] (Some q) on low is h = absurd h
  steps_by k s last (e ∷ others) (Some q) on low is h =
      rw (same_event e (r.due s) side q h.0 h.1 h.2) (Asking q e.answer low is (on (r.next s (Some e.answer)) others h.3))

  pub steps_of : (k : ℕ) {last s : S} {events : List Event} → Runs r side n k s (execution events last) → Steps r side n last s events
  steps_of zero runs = rw (runs.0, runs.1) Over
  steps_of (suc k) {last} {s} {events} runs = steps_by k s last events (r.asks s) (λ u others. steps_of k) runs.0 refl runs.1

  pub runs_of : {last s : S} {events : List Event} → Steps r side n last s events → SomeRuns r side n s events last
  runs_of Over = (0, (refl, refl))
  runs_of {last = last} (Silent {s = s} {events = events} low none on) =
      let more = runs_of on in (suc more.0, (low, subst (Then more.0 s events last) (sym none) more.1))
  runs_of {last = last} (Asking {s = s} {others = others} q a low is on) =
      let more = runs_of on in
      (suc more.0, (low, subst (Then more.0 s (event (r.due s) side q a ∷ others) last) (sym is) (refl, refl, refl, more.1)))

  -- steps below n, and then steps below a tick that is no smaller
  pub steps_append : (k : ℕ) → n ≤ k → {u v s : S} {a b : List Event} → Steps r side n u s a → Steps r side k v u b → Steps r side k v s (a ++ b)
  steps_append k le Over rest = rest
  steps_append k le (Silent low none on) rest = Silent (omega arith) none (steps_append k le on rest)
  steps_append k le (Asking q a low is on) rest = Asking q a (omega arith) is (steps_append k le on rest)

-- steps to last, each below n, from a state, that ask nothing or are looks: as `Looks`, to be taken
-- apart step by step
pub data Glances {S : Type 0} (m : Transitions S) (n : ℕ) (v : Shown) (last : S) : S → Type 0 where
  Here : Glances m n v last last
  Past : {s : S} → m.due s < n → m.asks s ≡ None → Glances m n v last (m.next s None) → Glances m n v last s
  Seeing : {s : S} → m.due s < n → m.asks s ≡ Some look → m.due s < v.safe_until → Glances m n v last (m.next s (Some (Seen v.lines))) → Glances m n v last s

module _ {S : Type 0} (m : Transitions S) (n : ℕ) (v : Shown) where
  glances_by : (k : ℕ) (s last : S) (o : Option Query) → ((u : S) → Looks m n v k u last → Glances m n v last u) → m.due s < n → m.asks s ≡ o
      → MatchOption o (Looks m n v k (m.next s None) last) (λ q. (q ≡ look) × (m.due s < v.safe_until) × Looks m n v k (m.next s (Some (Seen v.lines))) last)
      → Glances m n v last s
  glances_by k s last None on low is h = Past low is (on (m.next s None) h)
  glances_by k s last (Some q) on low is h = Seeing low (is ∙ ap (λ x. Some x) h.0) h.1 (on (m.next s (Some (Seen v.lines))) h.2)

  pub glances_of : (k : ℕ) {last s : S} → Looks m n v k s last → Glances m n v last s
  glances_of zero looks = rw looks Here
  glances_of (suc k) {last} {s} looks = glances_by k s last (m.asks s) (λ u. glances_of k) looks.0 refl looks.1

-- the tick rises
pub glances_rise : {S : Type 0} {m : Transitions S} {n : ℕ} {v : Shown} {last s : S} → IsLawful m → Glances m n v last s → m.due s ≤ m.due last
glances_rise {m = m} {last = last} lawful Here = let d = m.due last in omega arith
glances_rise lawful (Past {s = s} low none on) = omega (arith, lawful.rises s None, glances_rise lawful on)
glances_rise {v = v} lawful (Seeing {s = s} low is before on) = omega (arith, lawful.rises s (Some (Seen v.lines)), glances_rise lawful on)

-- accesses that the port answers, with such steps before and between them: as `PortRun`
pub data Talking {S D : Type 0} (m : Transitions S) (answers : D → ℕ → Op → ℕ → D → Type 0) (n : ℕ) (v : Shown) (last : S) (e : D) : S → D → Type 0 where
  Last : {s : S} → Glances m n v last s → Talking m answers n v last e s e
  Next : {s at on : S} {d f : D} → Glances m n v at s → IsAnswered m answers n at d on f → Talking m answers n v last e on f → Talking m answers n v last e s d

pub talking_of : {S D : Type 0} {m : Transitions S} {answers : D → ℕ → Op → ℕ → D → Type 0} {n : ℕ} {v : Shown} (j : ℕ) {last : S} {e : D} {s : S} {d : D}
    → PortRun m answers n v j s d last e → Talking m answers n v last e s d
talking_of {m = m} {n = n} {v = v} zero h = rw h.0 (Last (glances_of m n v h.1.0 h.1.1))
talking_of {m = m} {n = n} {v = v} (suc j) h = Next (glances_of m n v h.3.0 h.3.1) h.4 (talking_of j h.5)

-- a state is closed

module _ {S : Type 0} (r : Transitions S) (lr : IsLawful r) (s : S) (n : ℕ) (le : n ≤ r.due s) where
  closing_at : IsClosing r s (max n (r.closed s))
  closing_at = let within = lr.within s in lr.closing s (max n (r.closed s)) (omega arith) (omega arith)

  -- it holds the device steps below n and those it held before, its next step is unchanged, and
  -- closing it further is closing it at once
  pub shut_is : IsShut r s n
  shut_is =
      record {
        closed = closing_at.closed;
        due = closing_at.due;
        asks = closing_at.asks;
        next = closing_at.next;
        again = λ u low high.
            let within = lr.within s in
            ap (λ x. r.close (close_leaves r s n) (max u x)) closing_at.closed
            ∙ closing_at.again (max u (max n (r.closed s))) (omega arith) (omega arith)
            ∙ ap (λ x. r.close s x) (omega arith);
      }

-- a run from a closed state is a run from the state before, except that a run of no step leaves the
-- closed one
module _ {S : Type 0} (r : Transitions S) (lr : IsLawful r) (side : Side) (n k : ℕ) (le : n ≤ k) (s : S) (over : n ≤ r.due s) where
  shut_here : IsShut r s n
  shut_here = shut_is r lr s n over

  -- the same events from before, to a state that is closed alike
  from_shut : {last v u : S} {b : List Event} → u ≡ close_leaves r s n → Steps r side k last u b → k ≤ r.due last → v ≡ close_leaves r last k →
      (l : S) × Steps r side k l s b × (k ≤ r.due l) × (v ≡ close_leaves r l k)
  from_shut is Over up ends =
      let due = ap r.due is ∙ shut_here.due in
      (s, Over, omega arith, ends ∙ ap (λ x. close_leaves r x k) is ∙ shut_here.again k le (omega arith))
  from_shut {last = last} is (Silent low none on) up ends =
      let due = ap r.due is ∙ shut_here.due in
      (last, Silent (omega arith) (sym (ap r.asks is ∙ shut_here.asks) ∙ none) (rw (← (ap (λ x. r.next x None) is ∙ shut_here.next None)) on), up, ends)
  from_shut {last = last} is (Asking {s = u} {others = others} q a low asks on) up ends =
      let due : r.due u ≡ r.due s = ap r.due is ∙ shut_here.due in
      let next : r.next u (Some a) ≡ r.next s (Some a) = ap (λ x. r.next x (Some a)) is ∙ shut_here.next (Some a) in
      (last, rw due (Asking {s = s} {others = others} q a (omega arith) (sym (ap r.asks is ∙ shut_here.asks) ∙ asks) (rw (← next) on)), up, ends)

pub follows_on : {S : Type 0} (r : Transitions S) → IsLawful r → FollowsOn r
follows_on r lr side s u v a b n k le fa fb =
    let on = from_shut r lr side n k le fa.last fa.over fa.ends (steps_of r side k fb.steps fb.runs) fb.over fb.ends in
    let all = runs_of r side k (steps_append r side n k le (steps_of r side n fa.steps fa.runs) on.1) in
    record { steps = all.0; last = on.0; runs = all.1; over = on.2; ends = on.3 }
