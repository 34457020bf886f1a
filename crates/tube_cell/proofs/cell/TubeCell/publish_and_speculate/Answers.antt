use Rattle.std.proofs.Common.{ap}
use Rattle.crossbeam_utils.specs.Seq.{cell_view}
use Rattle.tube_cell.proofs.Learns.{cut_fresh, pass_settled, learned}
use Rattle.tube_cell.proofs.Publishes.{may_both, pass_both, is_both, horizon_both}
use Rattle.tube_cell.proofs.cell.TubeCell.publish_and_speculate.Goals as goal

pub publish_and_speculate_at-told-requires-clause-may : goal.publish_and_speculate_at-told-requires-clause-may
publish_and_speculate_at-told-requires-clause-may g c =
    may_both c.pass.view_is c.pass.invariant.0 _ _ _ c.requires.side c.requires.none_speculative c.requires.later c.requires.order c.requires.watches

pub invariant_of-pass : goal.invariant_of-pass
invariant_of-pass g c =
    let w = cell_view c.publish_and_speculate_at-told.new.seat in (
      pass_both c.pass.view_is c.pass.invariant.0 _ _ _ c.requires.none_speculative c.publish_and_speculate_at-told.ensures.bounds c.requires.watches c.in-Ok.ensures.told c.in-Ok.ensures.next,
      cut_fresh c.pass.inside.side w (ap (λ u. u.ahead) c.in-Ok.ensures.told),
    )

pub returns-in-Ok-clause-speculated : goal.returns-in-Ok-clause-speculated
returns-in-Ok-clause-speculated g c = λ _.
    is_both c.pass.view_is c.pass.invariant.0 g.D.GhostEvents.events c.args.h.0 c.args.t.0 c.requires.side c.publish_and_speculate_at-told.ensures.cell.0 c.in-Ok.ensures.told

pub returns-in-Ok-clause-horizon : goal.returns-in-Ok-clause-horizon
returns-in-Ok-clause-horizon g c = λ is.
    horizon_both c.args.pass.now g.D.GhostEvents.events c.args.h.0 c.args.t.0 c.requires.side c.requires.later c.requires.order (returns-in-Ok-clause-speculated g c is)

pub invariant_of-pass-in-Err : goal.invariant_of-pass-in-Err
invariant_of-pass-in-Err g c = pass_settled c.pass.inside.cut c.pass.invariant.0 c.pass.invariant.1 c.in-Err.ensures.found c.settle.ensures.local c.settle.ensures.words

pub returns-in-Err-clause-learns : goal.returns-in-Err-clause-learns
returns-in-Err-clause-learns g c = λ _.
    learned c.pass.view_is c.pass.invariant.0 c.publish_and_speculate_at-told.ensures.cell.0 c.in-Err.ensures.found
