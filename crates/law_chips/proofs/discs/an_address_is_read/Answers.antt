use Rattle.law_chips.proofs.Addressing.{address_is_read}
use Rattle.law_chips.proofs.discs.an_address_is_read.Goals as goal

pub returns : goal.returns
returns c = address_is_read
