use Rattle.law_machines.proofs.Finishing.{cursor_stands}
use Rattle.law_machines.proofs.pictures.the_cursor_stands.Goals as goal

pub returns : goal.returns
returns c = cursor_stands c.shown_addresses_count.ensures
