use Rattle.std.proofs.Common.{◌≡◌, ◌≤◌, []}
use Rattle.tube_cell.specs.Views.{Admits}
use Rattle.tube_cell.specs.Passes.{own_horizon, bound_here}
use Rattle.tube_side.specs.CodeSteps.{HasWaited}
use Rattle.tube_side.proofs.at_cell.wait.Given as goal

abbrev pub invariant-loop : goal.invariant-loop
invariant-loop g l = record {
  can_next : (goal.iterator-loop g).can_next l.iterator';
  finite : (goal.iterator-loop g).is_finite l.iterator';
  waited : HasWaited l.fn.pass l.pass;
  later : own_horizon l.pass ≤ l.t.0;
  bare : l.pass.ahead ≡ [];
  far : ¬ Admits l.pass.side (bound_here l.pass) l.t.0;
  commits : l.pass.commits ≡ l.fn.pass.commits;
  higher : l.fn.pass.higher ≤ l.pass.higher;
}
