use Rattle.wd1770.proofs.Histories.{turns_on}
use Rattle.wd1770.proofs.law.the_discs_turn.Goals as goal

pub returns : goal.returns
returns c = turns_on
