use Rattle.crossbeam_utils.specs.Seq.{cell_view}
use Rattle.tube_cell.proofs.Acts.{saw_all, saw_cut, is_added, here_watched, bound_watched, horizon_past}
use Rattle.tube_cell.proofs.cell.TubeCell.see_all.Goals as goal

pub invariant_of-pass : goal.invariant_of-pass
invariant_of-pass g c =
    let w = cell_view c.add.new.seat in (
      saw_all c.pass.view_is c.pass.invariant.0 _ _ c.requires.none_speculative c.requires.watches c.requires.admitted c.add.ensures.added,
      saw_cut c.pass.view_is c.pass.invariant.0 _ _ c.pass.inside.cut c.pass.invariant.1 c.requires.watches c.add.ensures.added,
    )

pub returns-clause-added : goal.returns-clause-added
returns-clause-added g c = is_added g.D.GhostEvents.events c.pass.view_is c.add.ensures.cell.0 c.add.ensures.added

pub returns-clause-horizon : goal.returns-clause-horizon
returns-clause-horizon g c = horizon_past c.args.pass.now g.D.GhostEvents.events (returns-clause-added g c)

pub returns-clause-here : goal.returns-clause-here
returns-clause-here g c = here_watched c.args.pass.now _ _ c.requires.watches (returns-clause-added g c)

pub returns-clause-bound : goal.returns-clause-bound
returns-clause-bound g c = bound_watched c.args.pass.now _ _ c.requires.watches (returns-clause-added g c)
