use Rattle.wd1770.proofs.Histories.{stays_sound}
use Rattle.wd1770.proofs.law.a_controller_stays_sound.Goals as goal

pub returns : goal.returns
returns c = stays_sound
