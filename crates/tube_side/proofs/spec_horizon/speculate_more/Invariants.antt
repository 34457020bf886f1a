use Rattle.std.proofs.Common.{◌≡◌}
use Rattle.tube_cell.specs.Passes.{PassState}
use Rattle.tube_side.specs.CodeSteps.{IsPaidSpeculatively}
use Rattle.tube_side.specs.CodeSpecHorizon.{HasSpeculated}
use Rattle.tube_side.proofs.spec_horizon.speculate_more.Given as goal

abbrev pub invariant-loop : goal.invariant-loop
invariant-loop g l = record {
  can_next : (goal.iterator-loop g).can_next l.iterator';
  finite : (goal.iterator-loop g).is_finite l.iterator';
  told : (p : PassState) → HasSpeculated g.W.GhostSpeculation.speculation l.t.0 p l.fn.pass → HasSpeculated g.W.GhostSpeculation.speculation l.t.0 p l.pass;
  paid : (p : PassState) → IsPaidSpeculatively p l.fn.pass → IsPaidSpeculatively p l.pass;
  cell : l.pass.cell ≡ l.fn.pass.cell;
  side : l.pass.side ≡ l.fn.pass.side;
}
