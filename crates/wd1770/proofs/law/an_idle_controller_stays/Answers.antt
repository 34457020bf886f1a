use Rattle.wd1770.proofs.Runs.{idle_stays, motor_goes_off}
use Rattle.wd1770.proofs.law.an_idle_controller_stays.Goals as goal

pub returns-clause-state : goal.returns-clause-state
returns-clause-state c = idle_stays

pub returns-clause-motor : goal.returns-clause-motor
returns-clause-motor c = motor_goes_off
