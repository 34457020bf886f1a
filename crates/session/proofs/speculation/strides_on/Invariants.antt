use Rattle.std.proofs.Common.{ℕ, ◌≡◌}
use Rattle.tube_cell.specs.Passes.{PassState}
use Rattle.tube_side.specs.CodeSteps.{IsPaidSpeculatively}
use Rattle.tube_side.specs.CodeSpecHorizon.{HasSpeculated}
use Rattle.session.specs.CodeSpecRun.{IsReached, spec_run, HasGoneFurther}
use Rattle.session.proofs.speculation.strides_on.Given as goal

abbrev pub invariant-loop : goal.invariant-loop
invariant-loop g l =
    let at = spec_run g.M.Party.state g.M.Rewinds.before in
    record {
      can_next : (goal.iterator-loop g).can_next l.iterator';
      finite : (goal.iterator-loop g).is_finite l.iterator';
      further : HasGoneFurther g.M.Party.transitions l.n.0 l.fn.ask (at l.fn.past l.fn.half l.from) l.ask (at l.past l.half l.from);
      told : (p : PassState) (t u : ℕ) → IsReached l.n.0 l.fn.ask t → IsReached l.n.0 l.ask u
          → HasSpeculated g.W.GhostSpeculation.speculation t p l.fn.half.pass → HasSpeculated g.W.GhostSpeculation.speculation u p l.half.pass;
      paid : (p : PassState) → IsPaidSpeculatively p l.fn.half.pass → IsPaidSpeculatively p l.half.pass;
      cell : l.half.pass.cell ≡ l.fn.half.pass.cell;
      side : l.half.pass.side ≡ l.fn.half.pass.side;
    }
