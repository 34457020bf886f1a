use Rattle.tube_cell.proofs.Keeps.{ends}
use Rattle.tube_cell.proofs.cell.end_at.Goals as goal

pub load-requires-clause-rule : goal.load-requires-clause-rule
load-requires-clause-rule g c = ends _ _ c.requires.role
