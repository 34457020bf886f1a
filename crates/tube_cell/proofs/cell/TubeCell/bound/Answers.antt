use Rattle.std.proofs.Common.{◌∙◌}
use Rattle.crossbeam_utils.specs.Seq.{cell_view}
use Rattle.tube_cell.proofs.Acts.{bound_is, bound_bare}
use Rattle.tube_cell.proofs.cell.TubeCell.bound.Goals as goal

pub returns-clause-here : goal.returns-clause-here
returns-clause-here c =
    let v = cell_view c.pass.inside.seat in
    bound_is v c.pass.inside.cut c.pass.view_is
    c.pass.invariant.1 (c.spec_horizon_of.ensures.is v.known c.pass.invariant.0.words_are) c.spec_horizon_of.ensures.bounded
    c.min-spec_horizon.ensures (c.bound_of.ensures v.known c.pass.invariant.0.words_are)

pub returns-clause-known : goal.returns-clause-known
returns-clause-known c = λ none. returns-clause-here c ∙ bound_bare c.args.pass.now none
