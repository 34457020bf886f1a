use Rattle.tube_party.proofs.FollowingLemmas.{replay_following, replay_differs}
use Rattle.tube_party.proofs.law.replay_is_following.Goals as goal

pub returns-clause-follows : goal.returns-clause-follows
returns-clause-follows g c = replay_following g.M.Party.transitions g.met.M.Party.lawful

pub returns-clause-differs : goal.returns-clause-differs
returns-clause-differs g c = replay_differs g.M.Party.transitions g.met.M.Party.lawful
