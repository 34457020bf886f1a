use Rattle.follow.proofs.Adding.{counts_add}
use Rattle.follow.proofs.law.counts_add_up.Goals as goal

pub returns : goal.returns
returns g c = counts_add g.M.Seen.steps g.met.M.Seen.seen.lawful g.M.Seen.sights
