use Rattle.std.proofs.Common.{sym, ap, ◌∙◌}
use Rattle.tube_cell.proofs.Keeps.{learns}
use Rattle.tube_cell.proofs.Learns.{pass_settled, learned}
use Rattle.tube_cell.proofs.cell.TubeCell.learn.Goals as goal

pub load-found-requires-clause-cell : goal.load-found-requires-clause-cell
load-found-requires-clause-cell g c = ap (λ p. p.cell) c.pass.view_is ∙ c.requires ∙ sym c.self.view_is

pub load-found-requires-clause-rule : goal.load-found-requires-clause-rule
load-found-requires-clause-rule g c = learns c.pass.inside.side _ _ c.pass.invariant.0.role

pub invariant_of-pass : goal.invariant_of-pass
invariant_of-pass g c = pass_settled c.pass.inside.cut c.pass.invariant.0 c.pass.invariant.1 c.load-found.ensures.rule c.settle.ensures.local c.settle.ensures.words

pub returns : goal.returns
returns g c =
    learned c.pass.view_is c.pass.invariant.0 c.load-found.ensures.cell.0 c.load-found.ensures.rule
