-- What one thread promises of its machine.
use Rattle.std.specs.Prelude.{ℕ, ◌≡◌, ◌≤◌, ◌^◌, Bool, IsTrue, List, [], ◌++◌, length, take}
use Rattle.atomic_table.specs.Seated.{TableId}
use Rattle.beeb_bits.specs.declared.Side.{Side}
use Rattle.tube_chip.specs.Events.{Event}
use Rattle.tube_trace.specs.Entries.{accesses}
use Rattle.tube_cell.specs.Passes.{own_horizon}
use Rattle.tube_party.specs.Transitions.{Transitions, Follows}
use Rattle.tube_side.specs.CodeSteps.{SamePass}
use Rattle.session.specs.CodeSideAndLog.{Place, SideAndLog}

-- A side may be run up to n, at most 2^30, at this cell: its machine may play the pass's side. Its
-- next step and n are not below the pass's own horizon. Nothing is unpublished or speculative, and
-- nothing was stored or counted yet.
pub record MayWork {S : Type 0} (m : Transitions S) (plays : Side → Bool) (cell : TableId) (n : ℕ) (x : SideAndLog S) : Type 0 where
  pub ticks : n ≤ 2 ^ 30
  pub cell_is : x.at.pass.cell ≡ cell
  pub published : x.at.pass.ahead ≡ []
  pub none_speculative : x.at.pass.speculative ≡ []
  pub may_play : IsTrue (plays x.at.pass.side)
  pub next : own_horizon x.at.pass ≤ m.due x.at.state
  pub open_ : own_horizon x.at.pass ≤ n
  pub none_kept : x.log.list.items ≡ []
  pub none_counted : x.log.count ≡ 0

-- The machine followed the events that joined the pass's list, up to n. The pass's horizon is n, so
-- the other side need not wait for it any more. The first `keep` accesses among the events are
-- stored, and all are counted.
pub record HasWorked {S : Type 0} (m : Transitions S) (n keep : ℕ) (x : Place S) (y : SideAndLog S) : Type 0 where
  pub added : List Event
  pub events : y.at.pass.events ≡ x.pass.events ++ added
  pub same : SamePass x.pass y.at.pass
  pub horizon : own_horizon y.at.pass ≡ n
  pub follows : Follows m x.pass.side x.state added n y.at.state
  pub kept : y.log.list.items ≡ take keep (accesses added)
  pub counted : y.log.count ≡ length (accesses added)
