-- What the loop of one thread keeps.
use Rattle.std.proofs.Common.{ℕ, Bool, zero, ◌≡◌, ◌≢◌, ◌+◌, ◌-◌, ◌<◌, ◌≤◌, min, refl, sym, ◌∙◌, ap, arith, List, [], ◌∷◌, ◌++◌, Some, append-nil, append_assoc, length, length-append, take}
use Rattle.std.proofs.Math.Seq.{take-nil}
use Rattle.atomic_table.specs.Seated.{TableId}
use Rattle.beeb_bits.specs.declared.Side.{Side}
use Rattle.tube_chip.specs.Events.{Event}
use Rattle.tube_chip.specs.Act.{access, look}
use Rattle.tube_trace.specs.Entries.{accesses, entry_of}
use Rattle.tube_cell.specs.Passes.{PassState, own_horizon}
use Rattle.tube_party.specs.declared.party.Ask.{Ask}
use Rattle.tube_party.specs.declared.party.Ask.TheVariants.{Nothing, Access, Look}
use Rattle.tube_party.specs.Transitions.{Transitions, IsLawful, Runs, IsAsk}
use Rattle.tube_party.specs.Logs.{HasNoted, accesses-append, noted_all_take, at_most_one}
use Rattle.tube_party.specs.Turn.{IsPending, ticks_left, note_all_leaves}
use Rattle.tube_party.specs.Quiet.{IsQuiet, quiet_here}
use Rattle.tube_side.specs.CodeSteps.{event_at, all_events, SameSeat, HasWaited}
use Rattle.session.specs.CodeSideAndLog.{Place, place, SideAndLog}
use Rattle.session.specs.CodeTurn.{Turned}
use Rattle.session.specs.CodeLookahead.{GoneOn, MovedOn, HasStayed}
use Rattle.session.specs.Work.{MayWork, HasWorked}
use Rattle.tube_party.proofs.Runs.{Over, Asking, SomeRuns, runs_of}
use Rattle.session.proofs.Runs.{append, rises}
use Rattle.session.proofs.EventLemmas.{events_few}

-- From one place on, the machine followed the events that were added to the pass's, and their
-- accesses were stored and counted. The pass's horizon is neither above the next step nor above n.
pub record IsThere {S : Type 0} (m : Transitions S) (n keep : ℕ) (x0 : Place S) (x : SideAndLog S) : Type 0 where
  pub added : List Event
  pub runs : SomeRuns m x0.pass.side n x0.state added x.at.state
  pub events : all_events x.at.pass ≡ all_events x0.pass ++ added
  pub same : SameSeat x0.pass x.at.pass
  pub kept : x.log.list.items ≡ take keep (accesses added)
  pub counted : x.log.count ≡ length (accesses added)
  pub keep_is : x.log.keep ≡ keep
  pub few : x.log.count ≤ m.due x.at.state
  pub next : own_horizon x.at.pass ≤ m.due x.at.state
  pub open_ : own_horizon x.at.pass ≤ n

-- a side with another state
abbrev pub in_state : {S : Type 0} → S → SideAndLog S → SideAndLog S
in_state s x = record x { at = place s x.at.pass }

-- It holds up to the step that asks next.
pub record IsInProgress {S : Type 0} (m : Transitions S) (n keep : ℕ) (x0 : Place S) (ask : Ask) (x : SideAndLog S) : Type 0 where
  pub last : S
  pub there : IsThere m n keep x0 (in_state last x)
  pub asked : IsAsk m n last ask x.at.state

module _ {S : Type 0} (m : Transitions S) (n : ℕ) where
  -- a step that asks, below n, is asked of the state that it is the next of
  pub asks_there : (last s : S) (ask : Ask) → ask ≢ Nothing → IsAsk m n last ask s → IsPending m n s ask × (s ≡ last) × (m.due last < n)
  asks_there last s Nothing some h = absurd (some refl)
  asks_there last s (Access t op) some h = let a = h.0 in let b = h.1 in ((h.0 ∙ ap m.due (sym h.3), h.1, ap m.asks h.3 ∙ h.2), h.3, omega arith)
  asks_there last s (Look t) some h = ((h.0 ∙ ap m.due (sym h.3), h.1, ap m.asks h.3 ∙ h.2), h.3, omega arith)

  -- an ask leaves the ticks from its own on
  left_is : (last s : S) (ask : Ask) → IsAsk m n last ask s → ticks_left n ask ≡ n - m.due last
  left_is last s Nothing h = omega arith
  left_is last s (Access t op) h = let a = h.0 in omega arith
  left_is last s (Look t) h = omega arith

-- a party that asks is quiet up to that step
pub quiet_is : {S : Type 0} {m : Transitions S} (n : ℕ) {s : S} (ask : Ask) {q : ℕ} → IsPending m n s ask → IsQuiet m s q → min q n ≡ m.due s
quiet_is n Nothing h quiet = absurd h
quiet_is {m} n {s} (Access t op) {q} h quiet = let a = h.0 in let b = h.1 in let c = quiet_here m s q (access op) quiet h.2 in omega arith
quiet_is {m} n {s} (Look t) {q} h quiet = let c = quiet_here m s q look quiet h.2 in omega arith

pub seat_on : {p q r : PassState} → SameSeat p q → SameSeat q r → SameSeat p r
seat_on a b = record { cell = b.cell ∙ a.cell; side = b.side ∙ a.side; speculative = b.speculative }

-- a side with `GoneOn` has `MovedOn`
pub moved : {S : Type 0} {m : Transitions S} {n : ℕ} {x y : SideAndLog S} {ask : Ask} → x.at.pass.speculative ≡ [] → GoneOn m n x ask y → MovedOn m n x ask y
moved {x} none g = record {
  added = g.events;
  steps = g.steps;
  last = g.last;
  runs = g.runs;
  asked = g.asked;
  noted = g.noted;
  same = record { cell = ap (λ z. z.cell) g.pass; side = ap (λ z. z.side) g.pass; speculative = ap (λ z. z.speculative) g.pass ∙ none };
  events = ap all_events g.pass ∙ sym (append_assoc x.at.pass.events x.at.pass.ahead g.events);
  next = g.next;
  open_ = g.open_;
}

begins : {S : Type 0} {m : Transitions S} {plays : Side → Bool} {cell : TableId} {n : ℕ} {x : SideAndLog S} → MayWork m plays cell n x → IsThere m n x.log.keep x.at x
begins {x = x} may = record {
  added = [];
  runs = (zero, (refl, refl));
  events = sym (append-nil (all_events x.at.pass));
  same = record { cell = refl; side = refl; speculative = may.none_speculative };
  kept = may.none_kept ∙ sym (take-nil x.log.keep);
  counted = may.none_counted;
  keep_is = refl;
  few = omega arith;
  next = may.next;
  open_ = may.open_;
}

module _ {S : Type 0} {m : Transitions S} (lawful : IsLawful m) {n keep : ℕ} {x0 : Place S} where
  -- it went on from there by these events
  joins : {x y : SideAndLog S} (w : IsThere m n keep x0 x) (es : List Event) → SomeRuns m x0.pass.side n x.at.state es y.at.state
      → all_events y.at.pass ≡ all_events x.at.pass ++ es → SameSeat x.at.pass y.at.pass → HasNoted (accesses es) x.log y.log
      → length (accesses es) + m.due x.at.state ≤ m.due y.at.state → own_horizon y.at.pass ≤ m.due y.at.state → own_horizon y.at.pass ≤ n → IsThere m n keep x0 y
  joins w es runs events same noted few next open_ =
      let all = ap length (accesses-append w.added es) ∙ length-append (accesses w.added) (accesses es) in
      record {
        added = w.added ++ es;
        runs = append m _ n _ w.added w.runs.1 runs;
        events = events ∙ ap (λ l. l ++ es) w.events ∙ append_assoc (all_events x0.pass) w.added es;
        same = seat_on w.same same;
        kept =
            noted.list_is ∙ (λ i. note_all_leaves (w.keep_is i) (w.kept i) (accesses es))
            ∙ noted_all_take keep (accesses w.added) (accesses es) ∙ ap (take keep) (sym (accesses-append w.added es));
        counted = omega arith;
        keep_is = noted.keep_is ∙ w.keep_is;
        few = omega arith;
        next = next;
        open_ = open_;
      }

  -- it moved on from there
  pub moves_on : {x : SideAndLog S} {ask : Ask} {y : SideAndLog S} → IsThere m n keep x0 x → MovedOn m n x ask y → IsInProgress m n keep x0 ask y
  moves_on {x} w g = record {
    last = g.last;
    asked = g.asked;
    there = joins w g.added (g.steps, rw w.same.side at g.runs) g.events g.same g.noted
        (events_few lawful _ n _ _ g.added g.last g.runs) g.next g.open_;
  }

  module _ {ask : Ask} {x : SideAndLog S} (some : ask ≢ Nothing) (w : IsInProgress m n keep x0 ask x) where
    pub at_ask : IsThere m n keep x0 x
    at_ask = rw (asks_there m n _ _ _ some w.asked).1 w.there

    pub low : m.due x.at.state < n
    low = rw (asks_there m n _ _ _ some w.asked).1 (asks_there m n _ _ _ some w.asked).2

    module _ {y : SideAndLog S} (t : Turned m x y) where
      abbrev new : Side → Event
      new side = event_at (m.due x.at.state) side t.query t.answer

      up : m.due x.at.state < m.due y.at.state
      up = rw t.state_is (lawful.rises x.at.state (Some t.answer))

      one_more : SomeRuns m x0.pass.side n x.at.state (new x0.pass.side ∷ []) y.at.state
      one_more = runs_of m x0.pass.side n (Asking t.query t.answer low t.asks (rw (← t.state_is) Over))

      -- the step that asks was done
      pub steps_on : IsThere m n keep x0 y
      steps_on =
          let z = at_ask in
          let side = x.at.pass.side in
          let noted = entry_of (m.due x.at.state) side t.query t.answer in
          let few = at_most_one (m.due x.at.state) side t.query t.answer in
          let bare = ap length (append-nil noted) in
          let next = z.next in
          let u = up in
          let l = low in
          joins z (new side ∷ []) (rw z.same.side one_more)
          t.done.events t.done.same (rw (append-nil noted) t.noted) (omega arith) (omega arith) (omega arith)

      -- and then what asks nothing
      pub turns_on : {ask2 : Ask} {z : SideAndLog S} → GoneOn m n y ask2 z → IsInProgress m n keep x0 ask2 z
      turns_on g = moves_on steps_on (moved t.done.same.speculative g)

      -- the next step that asks is later
      pub smaller : {ask2 : Ask} {z : SideAndLog S} → GoneOn m n y ask2 z → ticks_left n ask2 < ticks_left n ask
      smaller g =
          let more : m.due y.at.state ≤ m.due g.last = rises lawful _ n _ _ g.events g.last g.runs in
          let u = up in
          let l = low in
          let same : m.due x.at.state ≡ m.due w.last = ap m.due (asks_there m n _ _ _ some w.asked).1 in
          let was = left_is m n _ _ _ w.asked in
          let now = left_is m n _ _ _ g.asked in
          omega arith

  -- no step of it was done meanwhile
  pub still_in_progress : {x : SideAndLog S} {ask : Ask} {y : SideAndLog S} → ask ≢ Nothing → IsInProgress m n keep x0 ask x
      → HasStayed x y → own_horizon y.at.pass ≤ m.due x.at.state → IsInProgress m n keep x0 ask y
  still_in_progress {x} {ask} some w h under =
      let e : m.due x.at.state ≡ m.due w.last = ap m.due (asks_there m n _ _ _ some w.asked).1 in
      let l : m.due w.last < n = (asks_there m n _ _ _ some w.asked).2 in
      let there = w.there in
      record {
        last = w.last;
        there = record {
          added = there.added;
          runs = there.runs;
          events = h.waited.events ∙ there.events;
          same = seat_on there.same h.waited.same;
          kept = h.noted.list_is ∙ there.kept;
          counted = omega arith;
          keep_is = h.noted.keep_is ∙ there.keep_is;
          few = omega arith;
          next = omega arith;
          open_ = omega arith;
        };
        asked = rw h.state_is w.asked;
      }

  -- nothing more is asked below n
  pub ends : {x : SideAndLog S} {ask : Ask} {q : PassState} → ask ≡ Nothing → x0.pass.ahead ≡ []
      → IsInProgress m n keep x0 ask x → HasWaited x.at.pass q → q.ahead ≡ [] → own_horizon q ≡ n → HasWorked m n keep x0 (record x { at = place x.at.state q })
  ends {x} {q} is bare w h all at =
      let over : IsAsk m n w.last Nothing x.at.state = rw is at w.asked in
      let t = w.there in
      let same = seat_on t.same h.same in
      record {
        added = t.added;
        events =
            sym (append-nil q.events) ∙ ap (λ l. q.events ++ l) (sym all) ∙ h.events ∙ t.events
            ∙ ap (λ l. l ++ t.added) (ap (λ l. x0.pass.events ++ l) bare ∙ append-nil x0.pass.events);
        same = record { cell = same.cell; side = same.side; ahead = all; speculative = same.speculative };
        horizon = at;
        follows = record { steps = t.runs.0; last = w.last; runs = t.runs.1; over = over.0; ends = over.1 };
        kept = t.kept;
        counted = t.counted;
      }

-- a side that may work, and then has `GoneOn`
pub sets_out : {S : Type 0} {m : Transitions S} (lawful : IsLawful m) {plays : Side → Bool} {cell : TableId} {n : ℕ} {x y : SideAndLog S} {ask : Ask} → MayWork m plays cell n x
    → GoneOn m n x ask y → IsInProgress m n x.log.keep x.at ask y
sets_out lawful may gone = moves_on lawful (begins may) (moved may.none_speculative gone)
