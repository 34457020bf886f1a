use Rattle.tube_cell.proofs.cell.TubeCell.see_all.Given as goal

abbrev pub ghosts-add : goal.ghosts-add
ghosts-add g a = record { events = g.D.GhostEvents.events }
