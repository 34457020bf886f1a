use Rattle.tube_party.proofs.Runs.{shut_is, follows_on}
use Rattle.tube_party.proofs.law.party_goes_on.Goals as goal

pub returns-clause-shut : goal.returns-clause-shut
returns-clause-shut g c = shut_is g.M.Party.transitions g.met.M.Party.lawful

pub returns-clause-follows : goal.returns-clause-follows
returns-clause-follows g c = follows_on g.M.Party.transitions g.met.M.Party.lawful
