use Rattle.law_chips.proofs.Rows.{Facts, lower_rows_follow}
use Rattle.law_chips.proofs.pictures.lower_rows_follow.Goals as goal

facts : goal.After-characters_are_shown → Facts
facts c = record {
  lines = c.lines_have_their_characters.ensures;
  frames = c.frames_have_their_clocks.ensures;
  count = c.shown_addresses_count.ensures;
  shown = c.characters_are_shown.ensures;
}

pub returns : goal.returns
returns c = lower_rows_follow (facts c)
