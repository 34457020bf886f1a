use Rattle.tube_party.proofs.Followed.{reference_followed}
use Rattle.tube_party.proofs.law.reference_is_followed.Goals as goal

pub returns : goal.returns
returns g c = reference_followed g.H.Party.transitions g.P.Party.transitions g.met.H.Party.lawful g.met.P.Party.lawful
