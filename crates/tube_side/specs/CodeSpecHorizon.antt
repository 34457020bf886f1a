-- What the parasite has published of a speculation.
use Rattle.std.specs.Prelude.{ℕ, ◌≡◌, ◌≤◌, max, List, [], ◌++◌, drop, length}
use Rattle.tube_chip.specs.Events.{Event}
use Rattle.tube_cell.specs.Views.{past_last, below}
use Rattle.tube_cell.specs.Passes.{PassState, own_horizon}
use Rattle.tube_side.specs.CodeSteps.{all_events}
use Rattle.tube_side.specs.CodeSpeculation.{Speculation}

-- the events from the first one at tick t or later on
abbrev pub from_on : ℕ → List Event → List Event
from_on t events = drop (length (below t events)) events

-- The pass's list was `base` at the start. What the speculation observes below `confirmed` is confirmed,
-- and what it observes from there to the speculative horizon is speculative.
pub record IsSpeculating (w : Speculation) (base : List Event) (p : PassState) : Type 0 where
  pub confirmed : ℕ
  pub events : p.events ≡ base ++ w.until confirmed
  pub speculative : p.speculative ≡ from_on confirmed (w.until p.known.spec_horizon)
  pub passed : confirmed ≤ p.known.host
  pub order : confirmed ≤ p.known.spec_horizon

-- The pass was p at the start of the speculation, and the party has reached tick t. The pass has
-- nothing unpublished, and its list has all observations below the speculative horizon.
pub record HasSpeculated (w : Speculation) (t : ℕ) (p q : PassState) : Type 0 where
  pub cell : q.cell ≡ p.cell
  pub side : q.side ≡ p.side
  pub ahead : q.ahead ≡ []
  pub far : w.tick ≤ t
  pub spec_horizon : q.known.spec_horizon ≤ t
  pub para : q.known.para ≤ w.tick
  pub base : past_last (all_events p) ≤ w.tick
  pub speculating : IsSpeculating w (all_events p) q

-- In addition, the host has reached the speculative horizon: what lies below it is confirmed, and
-- nothing is speculative. The pass's horizon is at most the later of it and the speculation's
-- start.
pub record HasPassed (w : Speculation) (t : ℕ) (p q : PassState) : Type 0 where
  pub told : HasSpeculated w t p q
  pub speculative : q.speculative ≡ []
  pub events : q.events ≡ all_events p ++ w.until q.known.spec_horizon
  pub later : own_horizon q ≤ max q.known.spec_horizon w.tick
