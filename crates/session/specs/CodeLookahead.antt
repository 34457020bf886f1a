-- A side that continues past the queries that it may answer itself.
use Rattle.std.specs.Prelude.{ℕ, ◌≡◌, ◌≤◌, List, [], ◌++◌}
use Rattle.tube_chip.specs.Events.{Event}
use Rattle.tube_trace.specs.Entries.{accesses}
use Rattle.tube_cell.specs.Passes.{own_horizon, after_add}
use Rattle.tube_party.specs.declared.party.Ask.{Ask}
use Rattle.tube_party.specs.Transitions.{Transitions, Runs, IsAsk, execution}
use Rattle.tube_party.specs.Logs.{HasNoted}
use Rattle.tube_side.specs.CodeSteps.{all_events, SameSeat, HasWaited}
use Rattle.session.specs.CodeSideAndLog.{SideAndLog}

-- The party did steps that ask nothing, and observations that the pass's chip answers. These joined
-- its unpublished events, and the accesses among them were noted. `ask` comes next. Its step and n
-- are not below the pass's horizon.
pub record GoneOn {S : Type 0} (m : Transitions S) (n : ℕ) (x : SideAndLog S) (ask : Ask) (y : SideAndLog S) : Type 0 where
  pub events : List Event
  pub steps : ℕ
  pub last : S
  pub runs : Runs m x.at.pass.side n steps x.at.state (execution events last)
  pub asked : IsAsk m n last ask y.at.state
  pub noted : HasNoted (accesses events) x.log y.log
  pub pass : y.at.pass ≡ after_add x.at.pass events
  pub next : own_horizon y.at.pass ≤ m.due last
  pub open_ : own_horizon y.at.pass ≤ n

-- The party did steps that ask nothing, and steps that the side answered itself. These were added
-- to the pass's events, and the accesses among them were noted. `ask` comes next. Its step and n
-- are not below the pass's horizon.
pub record MovedOn {S : Type 0} (m : Transitions S) (n : ℕ) (x : SideAndLog S) (ask : Ask) (y : SideAndLog S) : Type 0 where
  pub added : List Event
  pub steps : ℕ
  pub last : S
  pub runs : Runs m x.at.pass.side n steps x.at.state (execution added last)
  pub asked : IsAsk m n last ask y.at.state
  pub noted : HasNoted (accesses added) x.log y.log
  pub same : SameSeat x.at.pass y.at.pass
  pub events : all_events y.at.pass ≡ all_events x.at.pass ++ added
  pub next : own_horizon y.at.pass ≤ m.due last
  pub open_ : own_horizon y.at.pass ≤ n

-- No step was done: only what the pass knows may have changed.
pub record HasStayed {S : Type 0} (x y : SideAndLog S) : Type 0 where
  pub waited : HasWaited x.at.pass y.at.pass
  pub ahead : y.at.pass.ahead ≡ x.at.pass.ahead
  pub state_is : y.at.state ≡ x.at.state
  pub noted : HasNoted [] x.log y.log
