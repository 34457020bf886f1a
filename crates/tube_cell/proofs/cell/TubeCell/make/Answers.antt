use Rattle.std.proofs.Common.{rules}
use Rattle.tube_cell.proofs.Keeps.{begins}
use Rattle.tube_cell.proofs.cell.TubeCell.make.Goals as goal

pub ruled-requires : goal.ruled-requires
ruled-requires c = (search rules, (search rules, rw c.power_on.ensures begins))
