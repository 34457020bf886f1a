use Rattle.std.proofs.Common.{option_to_list, option_map}
use Rattle.crossbeam_utils.specs.Seq.{cell_view}
use Rattle.tube_cell.proofs.Acts.{act_of}
use Rattle.tube_cell.proofs.cell.TubeCell.act.Given as goal

abbrev pub ghosts-add : goal.ghosts-add
ghosts-add g a = record { events = option_to_list (option_map (λ op. act_of a._tick a._side op (cell_view a.seat.now)) a._op) }
