use Rattle.crossbeam_utils.specs.Seq.{cell_view}
use Rattle.tube_cell.specs.Views.{known_with, word_of_other}
use Rattle.tube_cell.specs.Steps.{accesses}
use Rattle.tube_cell.proofs.cell.TubeCell.raise.Given as goal

abbrev pub ghosts-exchange : goal.ghosts-exchange
ghosts-exchange g a = record {
  events = accesses a.side (cell_view a.seat.now).known.chip a._access;
  next = known_with a.side a.chip.now a.word (word_of_other a.side (cell_view a.seat.now).known) a.spec_horizon;
}
