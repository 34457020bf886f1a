use Rattle.tube_party.proofs.Begun.{shorter_run}
use Rattle.tube_party.proofs.law.shorter_run_is_beginning.Goals as goal

pub returns : goal.returns
returns g c = shorter_run g.H.Party.transitions g.P.Party.transitions g.met.H.Party.lawful g.met.P.Party.lawful
