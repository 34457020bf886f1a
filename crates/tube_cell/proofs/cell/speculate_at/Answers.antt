use Rattle.std.proofs.Common.{◌∙◌, sym, ap}
use Rattle.crossbeam_utils.specs.Seq.{cell_view}
use Rattle.tube_cell.specs.Views.{words_of}
use Rattle.tube_cell.proofs.Raises.{speculates_as}
use Rattle.tube_cell.proofs.cell.speculate_at.Goals as goal

pub swap-requires-clause-rule : goal.swap-requires-clause-rule
swap-requires-clause-rule g c =
    let v = cell_view c.args.seat.now in
    let next = c.with_spec_horizon-next.ensures v.known c.requires.words ∙ ap words_of (sym c.requires.next) in
    speculates_as c.packing_is_one_to_one.ensures _ c.requires.may c.requires.next c.requires.words next
