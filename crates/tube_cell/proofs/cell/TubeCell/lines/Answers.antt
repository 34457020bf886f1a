use Rattle.std.proofs.Common.{◌∙◌, ap}
use Rattle.tube_chip.specs.State.{lines_of}
use Rattle.tube_cell.proofs.Acts.{here_of}
use Rattle.tube_cell.proofs.cell.TubeCell.lines.Goals as goal

pub returns : goal.returns
returns c = c.lines.ensures ∙ ap lines_of (here_of c.pass.view_is c.pass.invariant.0)
