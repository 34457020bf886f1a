use Rattle.std.proofs.Common.{◌∙◌, sym, ap}
use Rattle.crossbeam_utils.specs.Seq.{cell_view}
use Rattle.tube_cell.specs.Views.{words_of, known_with}
use Rattle.tube_cell.proofs.Raises.{publishes_as}
use Rattle.tube_cell.proofs.cell.exchange.Goals as goal

pub swap-requires-clause-rule : goal.swap-requires-clause-rule
swap-requires-clause-rule g c =
    let v = cell_view c.args.seat.now in
    let next = c.next_words-next.ensures.words
    ∙ ap (λ t. words_of (known_with c.args.side c.args.chip.now c.args.word t c.args.spec_horizon)) (c.word_of.ensures v.known c.requires.words)
    ∙ ap words_of (sym c.requires.next) in
    publishes_as c.packing_is_one_to_one.ensures _
    c.requires.may c.next_words-next.ensures.bounds c.requires.spec_horizon c.requires.next c.requires.words next
