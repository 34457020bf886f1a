use Rattle.law_machines.proofs.ParaTaking.{para_table}
use Rattle.law_machines.proofs.ticks.para_cycles_of_the_table.Goals as goal

pub returns : goal.returns
returns c = para_table
