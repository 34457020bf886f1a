use Rattle.std.proofs.Common.{◌∙◌, ap}
use Rattle.crossbeam_utils.specs.Seq.{cell_view}
use Rattle.tube_chip.specs.State.{lines_of}
use Rattle.tube_cell.specs.Passes.{lines_at, here}
use Rattle.tube_cell.proofs.Acts.{saw, saw_one_cut, is_seen, here_of, horizon_added}
use Rattle.tube_cell.proofs.cell.TubeCell.see.Goals as goal

pub invariant_of-pass : goal.invariant_of-pass
invariant_of-pass g c =
    let v = cell_view c.pass.inside.seat in
    let w = cell_view c.add.new.seat in (
      saw c.pass.view_is c.pass.invariant.0 c.args.t.0 c.requires.none_speculative c.requires.later c.requires.admitted c.add.ensures.added,
      saw_one_cut c.pass.inside.side c.pass.inside.cut c.args.t.0 v c.pass.invariant.1 c.add.ensures.added,
    )

pub returns-clause-lines : goal.returns-clause-lines
returns-clause-lines g c = c.lines.ensures ∙ ap lines_of (here_of c.pass.view_is c.pass.invariant.0)

pub returns-clause-added : goal.returns-clause-added
returns-clause-added g c = is_seen c.args.t.0 c.pass.view_is c.add.ensures.cell.0 c.add.ensures.added

pub returns-clause-horizon : goal.returns-clause-horizon
returns-clause-horizon g c = horizon_added c.args.pass.now (lines_at c.args.t.0 c.args.pass.now.side (lines_of (here c.args.pass.now))) c.requires.later (returns-clause-added g c)
