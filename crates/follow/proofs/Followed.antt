-- The run of a replay of a machine that follows the trace.
use Rattle.std.proofs.Common.{ℕ, zero, suc, ◌≡◌, ◌+◌, ◌≤◌, nat_lt, sym, ◌∙◌, arith, true, List, [], ◌∷◌, Option, None, Some}
use Rattle.std.specs.Prelude.{All, MatchOption}
use Rattle.std.proofs.lemmas.List.Elements.{All-head, All-tail}
use Rattle.std.proofs.lemmas.Bool.Decides.{nat_tests}
use Rattle.beeb_bits.specs.declared.Side.{Side}
use Rattle.tube_chip.specs.declared.Answer.{Answer}
use Rattle.tube_chip.specs.Act.{Query}
use Rattle.tube_chip.specs.Events.{Event}
use Rattle.tube_trace.specs.declared.Entry.{Entry}
use Rattle.tube_trace.specs.Entries.{accesses}
use Rattle.tube_party.specs.Transitions.{Transitions, IsLawful, Runs, Heads, execution}
use Rattle.tube_party.specs.Replay.{Numbered, own_from}
use Rattle.tube_party.specs.ReplayLaws.{IsAnsweredBy, FollowsTrace}
use Rattle.tube_party.proofs.Runs.{event}
use Rattle.tube_party.proofs.FollowingLemmas.{entries, own_entries}
use Rattle.follow.specs.Listing.{step_run, run_from, run_of}
use Rattle.follow.specs.Steps.{behind_event, behind_step, states_of}

same_event : (e : Event) (t : ℕ) (side : Side) (q : Query) → e.tick ≡ t → e.side ≡ side → e.query ≡ q → e ≡ event t side q e.answer
same_event e t side q et es eq = rw (← et, ← es, ← eq)

module _ {S : Type 0} (m : Transitions S) (lawful : IsLawful m) (side : Side) (trace : List Entry) (n : ℕ) where
  abbrev Told : Event → Type 0
  Told e = IsAnsweredBy trace e.tick e.side e.query e.answer

  -- the induction hypothesis for `k` steps
  abbrev Holds : ℕ → Type 0
  Holds k =
      (more : ℕ) (s last : S) (events : List Event) (own : List Numbered) → n ≤ m.due s + more → n ≤ m.due last
      → Runs m side n k s (execution events last) → All Told events → accesses events ≡ entries own →
      run_from m side trace n more s own ≡ states_of m k s events

  over : (more : ℕ) (s : S) (own : List Numbered) → n ≤ m.due s → run_from m side trace n more s own ≡ []
  over more s own high = grind (arith, nat_tests)

  -- after a step
  module _ (k : ℕ) (on : Holds k) (more : ℕ) (s last : S) (enough : n ≤ m.due s + suc more) (high : n ≤ m.due last) where
    goes : (a : Option Answer) (events : List Event) (own : List Numbered) → Runs m side n k (m.next s a) (execution events last) → All Told events → accesses events ≡ entries own →
        s ∷ run_from m side trace n more (m.next s a) own ≡ s ∷ states_of m k (m.next s a) events
    goes a events own runs answered same = grind (arith, nat_tests)

    asking_by : (q : Query) (a : Answer) (others : List Event) (own : List Numbered) → Runs m side n k (m.next s (Some a)) (execution others last) → IsAnsweredBy trace (m.due s) side q a
        → All Told others → accesses (event (m.due s) side q a ∷ others) ≡ entries own →
        step_run m side trace s own (Some q) (run_from m side trace n more) ≡ s ∷ states_of m k (m.next s (Some a)) others
    asking_by q a others own runs told answered same = grind (arith, nat_tests)

    heads_by : (q : Query) (events : List Event) (own : List Numbered) →
        Heads events (λ e rest. (e.tick ≡ m.due s) × (e.side ≡ side) × (e.query ≡ q) × Runs m side n k (m.next s (Some e.answer)) (execution rest last)) → All Told events
        → accesses events ≡ entries own → step_run m side trace s own (Some q) (run_from m side trace n more) ≡ s ∷ behind_event m s (states_of m k) events
    heads_by q [] own h answered same = absurd h
    heads_by q (e ∷ rest) own h answered same =
        let is = same_event e (m.due s) side q h.0 h.1 h.2 in
        asking_by q e.answer rest own h.3 (rw is at (All-head Told e rest answered)) (All-tail Told e rest answered) (rw is at same)

    step_by : (o : Option Query) (events : List Event) (own : List Numbered) →
        MatchOption o (Runs m side n k (m.next s None) (execution events last))
        (λ q. Heads events (λ e rest. (e.tick ≡ m.due s) × (e.side ≡ side) × (e.query ≡ q) × Runs m side n k (m.next s (Some e.answer)) (execution rest last))) →
        All Told events → accesses events ≡ entries own → step_run m side trace s own o (run_from m side trace n more) ≡ s ∷ behind_step m s (states_of m k) o events
    step_by None events own runs answered same = goes None events own runs answered same
    step_by (Some q) events own h answered same = heads_by q events own h answered same

  followed : (k : ℕ) → Holds k
  followed zero more s last events own enough high runs answered same = over more s own (rw runs.1 high)
  followed (suc k) zero s last events own enough high runs answered same = absurd (omega (arith, runs.0))
  followed (suc k) (suc more) s last events own enough high runs answered same =
      let low = runs.0 in
      let is : nat_lt (m.due s) n ≡ true = grind (arith, nat_tests) in
      rw is (step_by k (followed k) more s last enough high (m.asks s) events own runs.1 answered same)

  pub run_followed : (s ended : S) (f : FollowsTrace m side trace n s ended) → run_of m side trace n s ≡ states_of m f.follows.steps s f.events
  unfolding run_of
  run_followed s ended f =
      let d = m.due s in
      followed f.follows.steps n s f.follows.last f.events (own_from side n 1 trace) (omega arith) f.follows.over f.follows.runs f.answered (f.own ∙ sym (own_entries side n 1 trace).0)
