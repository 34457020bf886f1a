-- A side continues past what it may answer itself.
use Rattle.std.proofs.Common.{ℕ, ◌≡◌, ◌+◌, ◌≤◌, inl, inr, ◌∙◌, ap, arith, List, [], length, length-append, None, Some}
use Rattle.beeb_bits.specs.declared.Side.{Side}
use Rattle.tube_chip.specs.Act.{access}
use Rattle.tube_chip.specs.Events.{Event}
use Rattle.tube_trace.specs.Entries.{accesses, entry_of}
use Rattle.tube_cell.specs.declared.local.Readings.{Readings}
use Rattle.tube_cell.specs.Views.{AllBelow}
use Rattle.tube_cell.specs.Passes.{PassState, own_horizon, after_add}
use Rattle.tube_party.specs.declared.log.Log.{Log}
use Rattle.tube_party.specs.declared.party.Ask.{Ask}
use Rattle.tube_party.specs.declared.party.Ask.TheVariants.{Nothing, Access, Look}
use Rattle.tube_party.specs.Transitions.{Transitions, IsLawful, Runs, IsAsk, execution}
use Rattle.tube_party.specs.Logs.{at_most_one}
use Rattle.session.specs.CodeSight.{byte_answer, readings_seen, observed_events}
use Rattle.session.specs.CodeSideAndLog.{SideAndLog}
use Rattle.session.specs.CodeObserved.{HasObserved, IsOver}
use Rattle.session.specs.CodeLookahead.{GoneOn}
use Rattle.session.proofs.Observing.{none_late, stops_at, made}
use Rattle.tube_cell.proofs.Law.{low_cons, low_nil}
use Rattle.session.proofs.Runs.{along}

module _ {S : Type 0} {m : Transitions S} (lawful : IsLawful m) (side : Side) (n : ℕ) where
  -- a run's events lie below its next step
  pub events_low : (k : ℕ) (s : S) (events : List Event) (last : S) → Runs m side n k s (execution events last) → (m.due s ≤ m.due last) × AllBelow (m.due last) events
  events_low k s events last h =
      along m side n last (λ s b. (m.due s ≤ m.due last) × AllBelow (m.due last) b) (omega arith, low_nil)
      (λ s b _ _ r. let x = lawful.rises s None in let y = r.0 in (omega arith, r.1))
      (λ s e b _ t _ _ r. let x = lawful.rises s (Some e.answer) in (omega arith, low_cons e b (omega arith) r.1)) k s events h

  -- and below the end
  pub events_under : (k : ℕ) (s : S) (events : List Event) (last : S) → Runs m side n k s (execution events last) → AllBelow n events
  events_under k s events last h = along m side n last (λ s b. AllBelow n b) low_nil (λ s b _ _ r. r) (λ s e b low t _ _ r. low_cons e b (omega arith) r) k s events h

  -- a run has at most as many accesses as ticks
  pub events_few : (k : ℕ) (s : S) (events : List Event) (last : S) → Runs m side n k s (execution events last) → length (accesses events) + m.due s ≤ m.due last
  events_few k s events last h =
      along m side n last (λ s b. length (accesses b) + m.due s ≤ m.due last) (omega arith)
      (λ s b _ _ r. let x = lawful.rises s None in omega arith)
      (λ s e b _ _ _ _ r.
      let x = lawful.rises s (Some e.answer) in
      let one = at_most_one e.tick e.side e.query e.answer in
      let all = length-append (entry_of e.tick e.side e.query e.answer) (accesses b) in
      omega arith) k s events h

  module _ (r : Readings) (t : ℕ) (within : t ≤ n) where
    -- nothing more is observed at the ask where a party stops
    pub stops : (last new : S) (ask : Ask) → IsAsk m n last ask new → IsOver r t ask → (k : ℕ) → observed_events m side (readings_seen r) t k last ≡ []
    stops last new Nothing h over k = let a = h.0 in none_late lawful side (readings_seen r) t k last (omega arith)
    stops last new (Access u op) h (inl late) k = let a = h.0 in none_late lawful side (readings_seen r) t k last (omega arith)
    stops last new (Access u op) h (inr none) k = stops_at lawful side (readings_seen r) t k last (access op) h.2 (ap byte_answer none)
    stops last new (Look u) h over k = none_late lawful side (readings_seen r) t k last (omega arith)

    -- what it observed up to there are the observations below the tick
    pub observed_is : {s new : S} {before after : Log} {ask : Ask} (h : HasObserved m side n r t s before ask new after) → IsOver r t ask → (fuel : ℕ) → t ≤ m.due s + fuel
        → h.events ≡ observed_events m side (readings_seen r) t fuel s
    observed_is {s} h over fuel enough =
        made lawful _ _ n t h.last (stops _ _ _ h.asked over) _ fuel s _ h.runs h.seen h.low enough

  -- it noted no more accesses than there were ticks
  pub observes_few : {r : Readings} {t : ℕ} {s new : S} {before after : Log} {ask : Ask} (h : HasObserved m side n r t s before ask new after)
      → before.count ≤ m.due s → after.count ≤ m.due h.last
  observes_few {s} h few =
      let a = events_few _ s h.events h.last h.runs in
      omega arith

-- A pass gets what its party will observe; then the party runs as long as it only observes.
pub gone_on : {S : Type 0} {m : Transitions S} (lawful : IsLawful m) {n : ℕ} {r : Readings} {t : ℕ} (x y : SideAndLog S) {ask : Ask} {q : PassState} {side : Side}
    → y.at.pass ≡ q → side ≡ x.at.pass.side → own_horizon x.at.pass ≤ m.due x.at.state → own_horizon x.at.pass ≤ n → t ≤ n
    → q ≡ after_add x.at.pass (observed_events m x.at.pass.side (readings_seen r) t t x.at.state)
    → ((u : ℕ) → own_horizon x.at.pass ≤ u → AllBelow u (observed_events m x.at.pass.side (readings_seen r) t t x.at.state) → own_horizon q ≤ u)
    → HasObserved m side n r t x.at.state x.log ask y.at.state y.log → IsOver r t ask → GoneOn m n x ask y
gone_on {m} lawful {n} {r} {t} x y {ask} back own later open_ within pass past went over =
    let p = x.at.pass in
    let h = rw own at went in
    let events : List Event = observed_events m p.side (readings_seen r) t t x.at.state in
    let e : h.events ≡ events = observed_is lawful _ n r t within h over t (omega arith) in
    let runs = rw e at h.runs in
    let low = events_low lawful _ n _ _ events h.last runs in
    let high : (u : ℕ) → own_horizon p ≤ u → AllBelow u events → own_horizon y.at.pass ≤ u = λ u le all. rw back (past u le all) in
    record {
      events = events;
      steps = h.steps;
      last = h.last;
      runs = runs;
      asked = h.asked;
      noted = rw e at h.noted;
      pass = back ∙ pass;
      next = high (m.due h.last) (omega arith) low.1;
      open_ = high n open_ (events_under lawful _ n _ _ events h.last runs);
    }
