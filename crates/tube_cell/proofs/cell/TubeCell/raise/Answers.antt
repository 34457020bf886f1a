use Rattle.crossbeam_utils.specs.Seq.{cell_view}
use Rattle.tube_cell.proofs.Raises.{may_raise, pass_raised, is_raised, horizon_raised}
use Rattle.tube_cell.proofs.cell.TubeCell.raise.Goals as goal

pub exchange-raised-requires-clause-may : goal.exchange-raised-requires-clause-may
exchange-raised-requires-clause-may g c = may_raise c.pass.view_is c.pass.invariant.0 c.requires.published c.args.t.0 c.requires.none_speculative c.requires.later

pub exchange-raised-requires-clause-spec_horizon : goal.exchange-raised-requires-clause-spec_horizon
exchange-raised-requires-clause-spec_horizon g c = c.spec_horizon_of.ensures.is (cell_view c.pass.inside.seat).known c.pass.invariant.0.words_are

pub invariant_of-pass : goal.invariant_of-pass
invariant_of-pass g c = pass_raised c.pass.view_is c.pass.invariant.0 c.requires.published c.pass.inside.cut c.args.t.0 c.spec_horizon_of.result _ c.pass.invariant.1 c.requires.none_speculative
    c.exchange-raised.ensures.bounds c.in-Ok.ensures.published c.in-Ok.ensures.next

pub returns-in-Ok-clause-raised : goal.returns-in-Ok-clause-raised
returns-in-Ok-clause-raised g c = λ _.
    is_raised c.pass.view_is c.pass.invariant.0 c.requires.published c.args.t.0 c.exchange-raised.ensures.cell.0
    (c.spec_horizon_of.ensures.is (cell_view c.pass.inside.seat).known c.pass.invariant.0.words_are) c.in-Ok.ensures.published

pub returns-in-Ok-clause-horizon : goal.returns-in-Ok-clause-horizon
returns-in-Ok-clause-horizon g c = λ is. horizon_raised c.args.pass.now c.args.t.0 c.requires.later (returns-in-Ok-clause-raised g c is)
