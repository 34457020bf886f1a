use Rattle.std.proofs.Common.{◌≡◌, ◌∙◌, true, sym, ap, subst}
use Rattle.crossbeam_utils.specs.Seq.{cell_view}
use Rattle.tube_chip.specs.State.{lines_of}
use Rattle.tube_cell.specs.Views.{word_of_other, bound_at, other_bound, admits}
use Rattle.tube_cell.specs.Steps.{IsPassOf}
use Rattle.tube_cell.proofs.Learns.{bare_of, none_of, cut_kept}
use Rattle.tube_cell.proofs.Raises.{may_look, looked_ahead, looked_local, pass_looked, is_looked, horizon_looked}
use Rattle.tube_cell.proofs.cell.TubeCell.look.Goals as goal

pub load_at-found-requires-clause-may : goal.load_at-found-requires-clause-may
load_at-found-requires-clause-may g c = may_look c.pass.view_is c.pass.invariant.0 c.requires.published c.args.t.0 c.requires.none_speculative c.requires.later

pub invariant_of-pass : goal.invariant_of-pass
invariant_of-pass g c =
    let v = cell_view c.pass.inside.seat in
    let w = cell_view c.load_at-found.new.seat in
    let f = c.load_at-found.ensures.view in
    let local = c.settle.ensures.local v.known w.known c.pass.invariant.0.well f.well c.pass.invariant.0.words_are f.words_are in
    let none = bare_of v c.pass.view_is c.requires.published in (
      subst (λ words. IsPassOf c.pass.inside.side words c.settle.new.local w) (sym c.settle.ensures.words)
          (pass_looked c.settle.new.local c.pass.invariant.0
          (bare_of v c.pass.view_is c.requires.published) (none_of v c.pass.view_is c.requires.none_speculative) f local),
      cut_kept c.pass.inside.side c.pass.inside.cut v w c.pass.invariant.1 none (looked_ahead f ∙ none),
    )

pub returns-then-is_admitted-clause-looked : goal.returns-then-is_admitted-clause-looked
returns-then-is_admitted-clause-looked g c =
    let v = cell_view c.pass.inside.seat in
    let w = cell_view c.load_at-found.new.seat in
    let f = c.load_at-found.ensures.view in
    let local = looked_local c.settle.new.local w c.pass.invariant.0 (bare_of v c.pass.view_is c.requires.published)
    (c.settle.ensures.local v.known w.known c.pass.invariant.0.well f.well c.pass.invariant.0.words_are f.words_are) in
    let found = c.settle.ensures.words ∙ f.words_are in
    let word = c.bound_of-bound.ensures w.known found ∙ ap (λ n. bound_at c.pass.inside.side (word_of_other c.pass.inside.side w.known) n) (c.spec_horizon_of.ensures.is w.known found) in
    let admitted : admits c.pass.inside.side (other_bound c.pass.inside.side w.known) c.args.t.0 ≡ true =
    ap (λ n. admits c.pass.inside.side n c.args.t.0) (sym word) ∙ sym c.is_admitted.ensures ∙ c.if-is_admitted.true in
    is_looked c.pass.view_is c.pass.invariant.0 c.requires.published c.requires.none_speculative c.requires.later
    c.load_at-found.ensures.cell.0 f admitted (c.lines.ensures ∙ ap lines_of local)

pub returns-then-is_admitted-clause-horizon : goal.returns-then-is_admitted-clause-horizon
returns-then-is_admitted-clause-horizon g c =
    horizon_looked c.args.pass.now c.args.t.0 c.lines.result c.requires.published c.requires.none_speculative c.requires.later (returns-then-is_admitted-clause-looked g c)
