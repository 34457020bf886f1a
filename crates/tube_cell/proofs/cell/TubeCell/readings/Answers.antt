use Rattle.std.proofs.Common.{◌∙◌}
use Rattle.tube_cell.specs.Views.{shown_to}
use Rattle.tube_cell.proofs.Acts.{here_of}
use Rattle.tube_cell.proofs.cell.TubeCell.readings.Goals as goal

pub returns : goal.returns
returns c =
    let here_is = here_of c.pass.view_is c.pass.invariant.0 in
    c.readings_of.ensures ∙ (λ i. shown_to (c.pass.view_is i).side (here_is i))
