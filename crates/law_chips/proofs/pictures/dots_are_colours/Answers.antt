use Rattle.law_chips.proofs.Colouring.{dots_are_colours}
use Rattle.law_chips.proofs.pictures.dots_are_colours.Goals as goal

pub returns : goal.returns
returns c = dots_are_colours
