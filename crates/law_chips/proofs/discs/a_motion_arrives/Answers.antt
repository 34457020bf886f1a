use Rattle.law_chips.proofs.Begun.{motions_arrive}
use Rattle.law_chips.proofs.discs.a_motion_arrives.Goals as goal

pub returns : goal.returns
returns c = motions_arrive
