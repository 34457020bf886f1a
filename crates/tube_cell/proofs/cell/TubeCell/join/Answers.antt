use Rattle.std.proofs.Common.{sym, ap, ◌∙◌, subst}
use Rattle.tube_chip.specs.Events.{merge, after, IsLegal}
use Rattle.tube_cell.specs.Views.{one_side}
use Rattle.tube_cell.proofs.cell.TubeCell.join.Goals as goal

pub take_in-requires-clause-host_cell : goal.take_in-requires-clause-host_cell
take_in-requires-clause-host_cell g c = ap (λ p. p.cell) c.host.view_is ∙ c.requires.cell.0 ∙ sym c.self.view_is

pub take_in-requires-clause-para_cell : goal.take_in-requires-clause-para_cell
take_in-requires-clause-para_cell g c = ap (λ p. p.cell) c.para.view_is ∙ c.requires.cell.1 ∙ sym c.self.view_is

pub take_in-requires-clause-host_role : goal.take_in-requires-clause-host_role
take_in-requires-clause-host_role g c = c.host.invariant.0.role ∙ ap one_side (ap (λ p. p.side) c.host.view_is ∙ c.requires.sides.0)

pub take_in-requires-clause-para_role : goal.take_in-requires-clause-para_role
take_in-requires-clause-para_role g c = c.para.invariant.0.role ∙ ap one_side (ap (λ p. p.side) c.para.view_is ∙ c.requires.sides.1)

pub take_in-requires-clause-none_speculative : goal.take_in-requires-clause-none_speculative
take_in-requires-clause-none_speculative g c = ap (λ p. p.speculative) c.para.view_is ∙ c.requires.none_speculative

pub end_at-found-requires-clause-cell : goal.end_at-found-requires-clause-cell
end_at-found-requires-clause-cell g c = c.take_in.ensures.cell.0 ∙ ap (λ p. p.cell) c.host.view_is ∙ c.requires.cell.0 ∙ sym c.self.view_is

pub end_at-found-requires-clause-role : goal.end_at-found-requires-clause-role
end_at-found-requires-clause-role g c = ap (λ v. v.role) c.take_in.ensures.joined

pub chip_of-requires : goal.chip_of-requires
chip_of-requires g c = let e = c.end_at-found.ensures in (e.known, e.well, e.words_are)

pub returns-clause-chip : goal.returns-clause-chip
returns-clause-chip g c =
    let e = c.end_at-found.ensures in
    c.chip_of.ensures e.known e.well e.words_are
    ∙ e.chip_is
    ∙ ap (λ v. after (merge v.mine v.theirs)) c.take_in.ensures.joined
    ∙ (λ i. after (merge (c.host.view_is i).events (c.para.view_is i).events))

pub returns-clause-legal : goal.returns-clause-legal
returns-clause-legal g c =
    subst IsLegal (ap (λ v. merge v.mine v.theirs) c.take_in.ensures.joined ∙ (λ i. merge (c.host.view_is i).events (c.para.view_is i).events)) c.end_at-found.ensures.legal
