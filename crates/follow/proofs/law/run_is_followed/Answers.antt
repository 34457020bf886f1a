use Rattle.follow.proofs.Followed.{run_followed}
use Rattle.follow.proofs.law.run_is_followed.Goals as goal

pub returns : goal.returns
returns g c = λ side trace n s ended f. run_followed g.M.Party.transitions g.met.M.Party.lawful side trace n s ended f
