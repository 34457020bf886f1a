use Rattle.tube_party.proofs.Resumed.{brought_back_is_reference}
use Rattle.tube_party.proofs.law.brought_back_is_reference.Goals as goal

pub returns : goal.returns
returns g c = brought_back_is_reference g.H.Party.transitions g.P.Party.transitions g.met.H.Party.lawful g.met.P.Party.lawful
