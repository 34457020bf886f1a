use Rattle.tube_party.proofs.law.legal_merge_is_reference.Goals as goal
use Rattle.tube_party.proofs.Meet.{legal_merge}

pub returns : goal.returns
returns g c = legal_merge g.H.Party.transitions g.P.Party.transitions g.met.H.Party.lawful g.met.P.Party.lawful
