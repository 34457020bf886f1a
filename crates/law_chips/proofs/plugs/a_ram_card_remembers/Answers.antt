use Rattle.law_chips.proofs.CardBytes.{card_remembers}
use Rattle.law_chips.proofs.plugs.a_ram_card_remembers.Goals as goal

pub returns : goal.returns
returns c = card_remembers
