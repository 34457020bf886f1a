use Rattle.wd1770.proofs.Runs.{takes_its_time, motion_ends}
use Rattle.wd1770.proofs.law.a_motion_takes_its_time.Goals as goal

pub returns-clause-busy : goal.returns-clause-busy
returns-clause-busy c = takes_its_time

pub returns-clause-end : goal.returns-clause-end
returns-clause-end c = motion_ends
