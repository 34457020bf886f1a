use Rattle.law_chips.proofs.BeamWalk.{Laws}
use Rattle.law_chips.proofs.PageDots.{frames_show_their_cells, rest_of_page_is_black}
use Rattle.law_chips.proofs.pictures.frames_show_their_cells.Goals as goal

laws : goal.After-characters_are_shown → Laws
laws c = record {
  lines = c.lines_have_their_characters.ensures;
  columns = c.sync_comes_in_each_line.ensures;
  frames = c.vertical_sync_comes_in_each_frame.ensures;
}

pub returns : goal.returns
returns c = record {
  cells = frames_show_their_cells c.row_is_fold.ensures.more c.cells_show_their_codes.ensures (laws c) c.shown_addresses_count.ensures c.characters_are_shown.ensures;
  rest = rest_of_page_is_black (laws c) c.characters_are_shown.ensures;
}
