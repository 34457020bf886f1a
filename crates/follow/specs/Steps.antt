-- The run of a replay, as the steps that follow the trace's events.
use Rattle.std.specs.Prelude.{ℕ, zero, suc, ◌≡◌, Option, None, Some, List, [], ◌∷◌}
use Rattle.beeb_bits.specs.declared.Side.{Side}
use Rattle.tube_chip.specs.Act.{Query}
use Rattle.tube_chip.specs.Events.{Event}
use Rattle.tube_trace.specs.declared.Entry.{Entry}
use Rattle.tube_party.specs.Transitions.{Transitions}
use Rattle.tube_party.specs.ReplayLaws.{FollowsTrace}
use Rattle.follow.specs.Listing.{run_of}

-- the states after a step with this question: the next event answers it, if there is one
abbrev pub behind_event : {S : Type 0} → Transitions S → S → (S → List Event → List S) → List Event → List S
behind_event m s go [] = []
behind_event m s go (e ∷ events) = go (m.next s (Some e.answer)) events

abbrev pub behind_step : {S : Type 0} → Transitions S → S → (S → List Event → List S) → Option Query → List Event → List S
behind_step m s go None events = go (m.next s None) events
behind_step m s go (Some q) events = behind_event m s go events

-- the states from which `k` steps are done that use up these events, in order
abbrev pub states_of : {S : Type 0} → Transitions S → ℕ → S → List Event → List S
states_of m zero s events = []
states_of m (suc k) s events = s ∷ behind_step m s (states_of m k) (m.asks s) events

-- If a machine follows a trace, the run of its replay is the list of states from which it does the
-- steps that use up these events.
abbrev pub RunIsFollowed : {S : Type 0} → Transitions S → Type 0
RunIsFollowed {S} m =
    (side : Side) (trace : List Entry) (n : ℕ) (s ended : S) (f : FollowsTrace m side trace n s ended) →
    run_of m side trace n s ≡ states_of m f.follows.steps s f.events
