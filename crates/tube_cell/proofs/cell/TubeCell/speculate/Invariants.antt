use Rattle.crossbeam_utils.specs.Seq.{cell_view}
use Rattle.tube_cell.proofs.Grows.{speculating}
use Rattle.tube_cell.proofs.cell.TubeCell.speculate.Given as goal

abbrev pub ghosts-speculate_at : goal.ghosts-speculate_at
ghosts-speculate_at g a = record { events = g.D.GhostEvents.events; next = speculating (cell_view a.seat.now).known a.spec_horizon }
