use Rattle.tube_cell.proofs.Keeps.{adds}
use Rattle.tube_cell.proofs.cell.add.Goals as goal

pub part-requires-clause-rule : goal.part-requires-clause-rule
part-requires-clause-rule g c = adds c.args._side _ _ g.D.GhostEvents.events c.requires.role
