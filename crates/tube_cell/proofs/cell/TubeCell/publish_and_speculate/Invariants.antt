use Rattle.crossbeam_utils.specs.Seq.{cell_view}
use Rattle.beeb_bits.specs.declared.Side.TheVariants.{Para}
use Rattle.tube_cell.specs.Views.{known_with, word_of_other}
use Rattle.tube_cell.proofs.cell.TubeCell.publish_and_speculate.Given as goal

abbrev pub ghosts-publish_and_speculate_at : goal.ghosts-publish_and_speculate_at
ghosts-publish_and_speculate_at g a = record {
  events = (cell_view a.seat.now).ahead;
  next = known_with Para a.chip.now a.word (word_of_other Para (cell_view a.seat.now).known) a.spec_horizon;
}
