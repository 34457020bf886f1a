use Rattle.std.proofs.Common.{◌≡◌, ◌≤◌}
use Rattle.tube_cell.specs.Passes.{own_horizon}
use Rattle.tube_side.specs.CodeSteps.{HasWaited, HasOnlyLearnt}
use Rattle.tube_side.proofs.spec_horizon.speculate_first.Given as goal

abbrev pub invariant-loop : goal.invariant-loop
invariant-loop g l = record {
  can_next : (goal.iterator-loop g).can_next l.iterator';
  finite : (goal.iterator-loop g).is_finite l.iterator';
  waited : HasWaited l.fn.pass l.pass;
  ahead : l.pass.ahead ≡ l.fn.pass.ahead;
  learnt : HasOnlyLearnt l.t.0 l.fn.pass l.pass;
  later : own_horizon l.pass ≤ l.mark.tick.0;
}
