use Rattle.law_machines.proofs.ResetLemmas.{break_resets}
use Rattle.law_machines.proofs.lines.break_resets.Goals as goal

pub returns : goal.returns
returns c = break_resets
