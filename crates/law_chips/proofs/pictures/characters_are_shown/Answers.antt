use Rattle.law_chips.proofs.Rasters.{characters_are_shown}
use Rattle.law_chips.proofs.pictures.characters_are_shown.Goals as goal

pub returns : goal.returns
returns c = characters_are_shown c.lines_have_their_characters.ensures c.frames_have_their_clocks.ensures
