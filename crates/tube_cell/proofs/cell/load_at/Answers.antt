use Rattle.tube_cell.proofs.Raises.{looks_as}
use Rattle.tube_cell.proofs.cell.load_at.Goals as goal

pub load-requires-clause-rule : goal.load-requires-clause-rule
load-requires-clause-rule g c = looks_as _ c.requires.may c.requires.tick
