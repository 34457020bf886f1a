-- Runs of a party, put together.
use Rattle.std.proofs.Common.{ℕ, ◌≡◌, ◌<◌, ◌≤◌, refl, arith, List, [], ◌∷◌, ◌++◌, None, Some}
use Rattle.beeb_bits.specs.declared.Side.{Side}
use Rattle.tube_chip.specs.Events.{Event}
use Rattle.tube_party.specs.Transitions.{Transitions, IsLawful, Runs, execution}
use Rattle.tube_party.proofs.Runs.{event, Steps, Over, Silent, Asking, SomeRuns, steps_of, runs_of, steps_append}

-- some steps, and then others
pub append : {S : Type 0} (r : Transitions S) (side : Side) (n : ℕ) {u v : S} {b : List Event} (i : ℕ) (a : List Event) {s : S} → Runs r side n i s (execution a u)
    → SomeRuns r side n u b v → SomeRuns r side n s (a ++ b) v
append r side n i a first rest = runs_of r side n (steps_append r side n n (omega arith) (steps_of r side n i first) (steps_of r side n rest.0 rest.1))

module _ {S : Type 0} (r : Transitions S) (side : Side) (n : ℕ) (last : S) (P : S → List Event → Type 0) (end : P last [])
    (silent_step : (s : S) (a : List Event) → r.due s < n → r.asks s ≡ None → P (r.next s None) a → P s a)
    (asking_step : (s : S) (e : Event) (a : List Event) → r.due s < n → e.tick ≡ r.due s → e.side ≡ side → r.asks s ≡ Some e.query → P (r.next s (Some e.answer)) a → P s (e ∷ a)) where
  by_steps : {s : S} {a : List Event} → Steps r side n last s a → P s a
  by_steps Over = end
  by_steps (Silent {s = s} {events = a} low is on) = silent_step s a low is (by_steps on)
  by_steps (Asking {s = s} {others = a} q answer low is on) = asking_step s (event (r.due s) side q answer) a low refl refl is (by_steps on)

  -- what holds at the end of a run, and before each step if it holds after the step, holds at the
  -- start
  pub along : (k : ℕ) (s : S) (a : List Event) → Runs r side n k s (execution a last) → P s a
  along k s a h = by_steps (steps_of r side n k h)

-- ticks do not fall
pub rises : {S : Type 0} {r : Transitions S} (lawful : IsLawful r) (side : Side) (n k : ℕ) (s : S) (a : List Event) (last : S) → Runs r side n k s (execution a last) → r.due s ≤ r.due last
rises {r = r} lawful side n k s a last h =
    along r side n last (λ s _. r.due s ≤ r.due last) (omega arith)
    (λ s b _ _ le. let low = lawful.rises s None in omega arith)
    (λ s e b _ _ _ _ le. let low = lawful.rises s (Some e.answer) in omega arith) k s a h
