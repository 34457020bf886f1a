use Rattle.law_chips.proofs.Flags.{ca1_sees, ca2_sees, cb1_sees, cb2_sees}
use Rattle.law_chips.proofs.adapters.active_edges_set_flags.Goals as goal

pub returns : goal.returns
returns c = record { ca1 = ca1_sees; ca2 = ca2_sees; cb1 = cb1_sees; cb2 = cb2_sees }
