use Rattle.std.proofs.Common.{◌≡◌, ◌≤◌, []}
use Rattle.tube_cell.specs.Passes.{own_horizon}
use Rattle.cases_tube.proofs.tests.shared_cell.access.Given as goal

abbrev pub invariant-loop : goal.invariant-loop
invariant-loop g l = (l.pass.cell ≡ l.initial.pass.cell) × (l.pass.side ≡ l.initial.pass.side) × (l.pass.ahead ≡ []) × (l.pass.speculative ≡ []) × (own_horizon l.pass ≤ l.t)
