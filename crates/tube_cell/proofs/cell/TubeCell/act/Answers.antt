use Rattle.std.proofs.Common.{◌∙◌}
use Rattle.crossbeam_utils.specs.Seq.{cell_view}
use Rattle.tube_chip.specs.Act.{answer_of}
use Rattle.tube_cell.specs.Passes.{access_at, here}
use Rattle.tube_cell.proofs.Acts.{acted, acted_cut, is_acted, here_of, horizon_added}
use Rattle.tube_cell.proofs.cell.TubeCell.act.Goals as goal

pub invariant_of-pass : goal.invariant_of-pass
invariant_of-pass g c =
    let w = cell_view c.add.new.seat in (
      acted c.pass.view_is c.pass.invariant.0 c.args.t.0 c.args.op c.requires.none_speculative
          c.requires.later c.requires.admitted c.operate-byte.ensures.chip c.add.ensures.added,
      acted_cut c.args.t.0 c.pass.inside.cut c.args.op c.pass.invariant.0 c.pass.invariant.1
          c.operate-byte.ensures.chip c.operate-byte.ensures.spec_horizon c.add.ensures.added,
    )

pub returns-clause-answer : goal.returns-clause-answer
returns-clause-answer g c =
    let here_is = here_of c.pass.view_is c.pass.invariant.0 in
    c.operate-byte.ensures.answer ∙ (λ i. answer_of (here_is i) (c.pass.view_is i).side c.args.op)

pub returns-clause-added : goal.returns-clause-added
returns-clause-added g c = is_acted c.args.t.0 c.args.op c.pass.view_is c.add.ensures.cell.0 c.add.ensures.added

pub returns-clause-horizon : goal.returns-clause-horizon
returns-clause-horizon g c = horizon_added c.args.pass.now (access_at c.args.t.0 c.args.pass.now.side c.args.op (here c.args.pass.now)) c.requires.later (returns-clause-added g c)
