use Rattle.std.proofs.Common.{◌≡◌, ◌≤◌, ◌*◌, []}
use Rattle.tube_cell.specs.Passes.{own_horizon}
use Rattle.cases_tube.proofs.tests.shared_cell.work.Given as goal

abbrev pub invariant-loop-k : goal.invariant-loop-k
invariant-loop-k g l =
    (l.pass.cell ≡ l.initial.pass.cell) × (l.pass.side ≡ l.initial.pass.side) × (l.pass.ahead ≡ []) × (l.pass.speculative ≡ [])
    × (own_horizon l.pass ≤ l.tick) × (l.tick ≤ 1024 * l.k)
