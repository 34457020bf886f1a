use Rattle.law_machines.proofs.ParaTaking.{para_takes}
use Rattle.law_machines.proofs.ticks.para_sequences_take_their_ticks.Goals as goal

pub returns : goal.returns
returns c = para_takes
