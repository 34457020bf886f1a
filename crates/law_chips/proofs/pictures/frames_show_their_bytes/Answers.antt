use Rattle.law_chips.proofs.BeamWalk.{Laws}
use Rattle.law_chips.proofs.Drawn.{frames_show_their_bytes}
use Rattle.law_chips.proofs.Drawn.{rest_is_black}
use Rattle.law_chips.proofs.pictures.frames_show_their_bytes.Goals as goal

laws : goal.After-characters_are_shown → Laws
laws c = record {
  lines = c.lines_have_their_characters.ensures;
  columns = c.sync_comes_in_each_line.ensures;
  frames = c.vertical_sync_comes_in_each_frame.ensures;
}

pub returns : goal.returns
returns c = record {
  bytes = frames_show_their_bytes (laws c) c.shown_addresses_count.ensures c.characters_are_shown.ensures;
  rest = rest_is_black (laws c) c.characters_are_shown.ensures;
}
