use Rattle.tube_party.proofs.Replayed.{reference_replayed}
use Rattle.tube_party.proofs.law.reference_is_replayed.Goals as goal

pub returns : goal.returns
returns g c = reference_replayed g.H.Party.transitions g.P.Party.transitions g.met.H.Party.lawful g.met.P.Party.lawful
