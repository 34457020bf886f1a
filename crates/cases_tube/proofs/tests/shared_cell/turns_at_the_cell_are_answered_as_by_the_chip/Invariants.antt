use Rattle.std.proofs.Common.{◌≡◌, ◌≤◌, []}
use Rattle.tube_cell.specs.Passes.{own_horizon}
use Rattle.cases_tube.proofs.tests.shared_cell.turns_at_the_cell_are_answered_as_by_the_chip.Given as goal

abbrev pub invariant-loop-k : goal.invariant-loop-k
invariant-loop-k g l =
    (l.host.cell ≡ l.initial.host.cell) × (l.host.side ≡ l.initial.host.side) × (l.host.ahead ≡ []) × (l.host.speculative ≡ []) × (own_horizon l.host ≤ l.k-counter)
    × (l.para.cell ≡ l.initial.para.cell) × (l.para.side ≡ l.initial.para.side) × (l.para.ahead ≡ []) × (l.para.speculative ≡ []) × (own_horizon l.para ≤ l.k-counter)
