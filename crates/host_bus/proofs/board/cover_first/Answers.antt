use Rattle.host_bus.proofs.Ram.{shows_first}
use Rattle.host_bus.proofs.board.cover_first.Goals as goal

pub returns-clause-shows : goal.returns-clause-shows
returns-clause-shows c = shows_first c.requires.clear c.cover.ensures.covered c.cover_slot.ensures.covered
