use Rattle.law_chips.proofs.Flags.{ports_show_their_bits}
use Rattle.law_chips.proofs.adapters.ports_show_their_bits.Goals as goal

pub returns : goal.returns
returns c = ports_show_their_bits
