use Rattle.std.proofs.Common.{[], ◌∷◌}
use Rattle.crossbeam_utils.specs.Seq.{cell_view}
use Rattle.tube_cell.proofs.Acts.{see_of}
use Rattle.tube_cell.proofs.cell.TubeCell.see.Given as goal

abbrev pub ghosts-add : goal.ghosts-add
ghosts-add g a = record { events = see_of a._tick a._side (cell_view a.seat.now) ∷ [] }
