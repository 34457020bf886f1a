-- What one step of a side does to its pass.
use Rattle.std.specs.Prelude.{ℕ, ◌≡◌, ◌+◌, ◌<◌, ◌≤◌, ◌⊎◌, List, [], ◌∷◌, ◌++◌}
use Rattle.beeb_bits.specs.declared.Side.{Side}
use Rattle.tube_chip.specs.declared.Answer.{Answer}
use Rattle.tube_chip.specs.Act.{Query}
use Rattle.tube_chip.specs.Events.{Event}
use Rattle.tube_cell.specs.Passes.{PassState, own_horizon}

abbrev pub event_at : ℕ → Side → Query → Answer → Event
event_at t side q a = record { tick = t; side = side; query = q; answer = a }

-- all events of a pass: its list, and those not yet published
abbrev pub all_events : PassState → List Event
all_events p = p.events ++ p.ahead

-- the pass is of the same cell and side, with nothing speculative
pub record SameSeat (p q : PassState) : Type 0 where
  pub cell : q.cell ≡ p.cell
  pub side : q.side ≡ p.side
  pub speculative : q.speculative ≡ []

-- the pass is of the same cell and side, with nothing unpublished and nothing speculative
pub record SamePass (p q : PassState) : Type 0 where
  pub cell : q.cell ≡ p.cell
  pub side : q.side ≡ p.side
  pub ahead : q.ahead ≡ []
  pub speculative : q.speculative ≡ []

-- no event was added: only the pass's horizon, what it knows, and which of its events are published
-- may have changed
pub record HasWaited (p q : PassState) : Type 0 where
  pub same : SameSeat p q
  pub events : all_events q ≡ all_events p

-- this step of the pass's side, at tick t, was added with this answer, and the own horizon is t + 1
pub record HasDone (t : ℕ) (query : Query) (answer : Answer) (p q : PassState) : Type 0 where
  pub same : SameSeat p q
  pub events : all_events q ≡ all_events p ++ event_at t p.side query answer ∷ []
  pub horizon : own_horizon q ≡ t + 1

-- no more publications of accesses than rises of the other's known bound
abbrev pub IsPaid : PassState → PassState → Type 0
IsPaid p q = q.commits + p.higher ≤ p.commits + q.higher

-- at most one publication more than rises
abbrev pub IsNearlyPaid : PassState → PassState → Type 0
IsNearlyPaid p q = q.commits + p.higher ≤ p.commits + q.higher + 1

-- no more publications than rises; or one more, while the host has not reached the speculative
-- horizon
abbrev pub IsPaidSpeculatively : PassState → PassState → Type 0
IsPaidSpeculatively p q = IsPaid p q ⊎ (IsNearlyPaid p q × (q.known.host < q.known.spec_horizon))

-- No access was published since p. Either the other's known bound rose, or the host's word is below
-- tick t.
abbrev pub HasOnlyLearnt : ℕ → PassState → PassState → Type 0
HasOnlyLearnt t p q = (q.commits ≡ p.commits) × ((p.higher < q.higher) ⊎ ((p.higher ≤ q.higher) × (q.known.host < t)))
