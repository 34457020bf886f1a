use Rattle.std.proofs.Common.{ap}
use Rattle.crossbeam_utils.specs.Seq.{cell_view}
use Rattle.tube_cell.proofs.Learns.{none_of, cut_fresh, pass_settled, learned}
use Rattle.tube_cell.proofs.Raises.{pass_published}
use Rattle.tube_cell.proofs.Publishes.{may_publish, publish_spec_horizon, is_published}
use Rattle.tube_cell.proofs.cell.TubeCell.publish.Goals as goal

pub exchange-requires-clause-may : goal.exchange-requires-clause-may
exchange-requires-clause-may g c = may_publish c.pass.view_is c.pass.invariant.0 c.args.h.0 c.requires.none_speculative c.requires.later

pub exchange-requires-clause-spec_horizon : goal.exchange-requires-clause-spec_horizon
exchange-requires-clause-spec_horizon g c =
    let v = cell_view c.pass.inside.seat in
    publish_spec_horizon c.pass.inside.side v c.pass.inside.cut c.pass.invariant.1
    (c.spec_horizon_of.ensures.is v.known c.pass.invariant.0.words_are) c.spec_horizon_of.ensures.bounded c.min-left.ensures

pub invariant_of-pass : goal.invariant_of-pass
invariant_of-pass g c = (
  pass_published c.pass.inside.side c.args.h.0 c.min-left.result _ (cell_view c.pass.inside.seat) c.pass.invariant.0.role
      (none_of (cell_view c.pass.inside.seat) c.pass.view_is c.requires.none_speculative) c.exchange.ensures.bounds c.in-Ok.ensures.published c.in-Ok.ensures.next,
  cut_fresh c.pass.inside.side (cell_view c.exchange.new.seat) (ap (λ u. u.ahead) c.in-Ok.ensures.published),
)

pub returns-in-Ok-clause-published : goal.returns-in-Ok-clause-published
returns-in-Ok-clause-published g c = λ _. is_published c.pass.view_is c.pass.invariant.0 c.args.h.0 c.exchange.ensures.cell.0
    (publish_spec_horizon c.pass.inside.side (cell_view c.pass.inside.seat) c.pass.inside.cut c.pass.invariant.1
    (c.spec_horizon_of.ensures.is (cell_view c.pass.inside.seat).known c.pass.invariant.0.words_are) c.spec_horizon_of.ensures.bounded c.min-left.ensures)
    c.in-Ok.ensures.published

pub invariant_of-pass-in-Err : goal.invariant_of-pass-in-Err
invariant_of-pass-in-Err g c = pass_settled c.pass.inside.cut c.pass.invariant.0 c.pass.invariant.1 c.in-Err.ensures.found c.settle.ensures.local c.settle.ensures.words

pub returns-in-Err-clause-learns : goal.returns-in-Err-clause-learns
returns-in-Err-clause-learns g c = λ _. learned c.pass.view_is c.pass.invariant.0 c.exchange.ensures.cell.0 c.in-Err.ensures.found
