use Rattle.law_sessions.proofs.Parts.{made_again}
use Rattle.law_sessions.proofs.machines.machines_are_made_again.Goals as goal

pub returns : goal.returns
returns c = made_again
