use Rattle.law_chips.proofs.Cells.{cells_show_their_codes}
use Rattle.law_chips.proofs.pictures.cells_show_their_codes.Goals as goal

pub returns : goal.returns
returns c = cells_show_their_codes c.row_is_fold.ensures.more
