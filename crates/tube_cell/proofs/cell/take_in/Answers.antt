use Rattle.std.proofs.Common.{sym, ap, ◌∙◌}
use Rattle.crossbeam_utils.specs.Seq.{cell_view}
use Rattle.tube_cell.specs.Rules.{joined_view}
use Rattle.tube_cell.proofs.Keeps.{parts, merges}
use Rattle.tube_cell.proofs.cell.take_in.Goals as goal

pub part-fresh-requires-clause-rule : goal.part-fresh-requires-clause-rule
part-fresh-requires-clause-rule c = parts _ _ c.requires.para_role

pub unite-requires-clause-cell : goal.unite-requires-clause-cell
unite-requires-clause-cell c =
    let given = c.part-fresh.ensures.given in
    (c.requires.host_cell, given.0 ∙ c.requires.para_cell ∙ sym c.requires.host_cell, given.2)

pub unite-requires-clause-rule : goal.unite-requires-clause-rule
unite-requires-clause-rule c =
    let given = c.part-fresh.ensures.given in
    merges _ _ _ _ c.requires.host_role (ap (λ v. v.role) given.1 ∙ c.requires.para_role) (ap (λ v. v.speculative) given.1 ∙ c.requires.none_speculative)

pub returns-clause-joined : goal.returns-clause-joined
returns-clause-joined c = c.unite.ensures.1 ∙ ap (λ w. joined_view (cell_view c.args.host.now) w) c.part-fresh.ensures.given.1
