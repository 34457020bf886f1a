use Rattle.std.proofs.Common.{◌≡◌, ◌≤◌, ◌^◌, []}
use Rattle.tube_cell.specs.Passes.{own_horizon}
use Rattle.cases_tube.proofs.tests.strides.changes.Given as goal

abbrev pub invariant-loop : goal.invariant-loop
invariant-loop g l = (l.pass.cell ≡ l.initial.pass.cell) × (l.pass.ahead ≡ []) × (l.pass.speculative ≡ []) × (own_horizon l.pass ≤ 2 ^ 30)
