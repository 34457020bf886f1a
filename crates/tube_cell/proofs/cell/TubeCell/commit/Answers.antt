use Rattle.std.proofs.Common.{◌+◌}
use Rattle.crossbeam_utils.specs.Seq.{cell_view}
use Rattle.tube_cell.proofs.Raises.{may_commit, commit_spec_horizon, pass_raised, is_committed, horizon_committed}
use Rattle.tube_cell.proofs.cell.TubeCell.commit.Goals as goal

pub exchange-requires-clause-may : goal.exchange-requires-clause-may
exchange-requires-clause-may g c = may_commit c.pass.view_is c.pass.invariant.0 c.requires.published c.args.t.0 c.args.op c.requires.none_speculative
    c.requires.later c.requires.admitted c.operate-answer.ensures.chip

pub exchange-requires-clause-spec_horizon : goal.exchange-requires-clause-spec_horizon
exchange-requires-clause-spec_horizon g c = commit_spec_horizon c.pass.view_is c.pass.invariant.0 c.requires.published c.args.t.0 c.args.op
    c.operate-answer.ensures.chip (c.spec_horizon_of.ensures.is (cell_view c.pass.inside.seat).known c.pass.invariant.0.words_are) c.operate-answer.ensures.spec_horizon

pub invariant_of-pass : goal.invariant_of-pass
invariant_of-pass g c = pass_raised c.pass.view_is c.pass.invariant.0 c.requires.published c.pass.inside.cut (c.args.t.0 + 1) c.operate-answer.result.1 _ c.pass.invariant.1 c.requires.none_speculative
    c.exchange.ensures.bounds c.in-Ok.ensures.published c.in-Ok.ensures.next

pub returns-in-Ok-clause-committed : goal.returns-in-Ok-clause-committed
returns-in-Ok-clause-committed g c =
    is_committed c.pass.view_is c.pass.invariant.0 c.requires.published c.args.t.0 c.args.op c.exchange.ensures.cell.0 c.operate-answer.ensures.chip
    (commit_spec_horizon c.pass.view_is c.pass.invariant.0 c.requires.published c.args.t.0 c.args.op c.operate-answer.ensures.chip
    (c.spec_horizon_of.ensures.is (cell_view c.pass.inside.seat).known c.pass.invariant.0.words_are) c.operate-answer.ensures.spec_horizon)
    c.in-Ok.ensures.published

pub returns-in-Ok-clause-horizon : goal.returns-in-Ok-clause-horizon
returns-in-Ok-clause-horizon g c = horizon_committed c.args.pass.now c.args.t.0 c.args.op c.requires.published c.requires.later (returns-in-Ok-clause-committed g c)
