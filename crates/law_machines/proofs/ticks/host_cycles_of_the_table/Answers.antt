use Rattle.law_machines.proofs.HostTaking.{host_table}
use Rattle.law_machines.proofs.ticks.host_cycles_of_the_table.Goals as goal

pub returns : goal.returns
returns c = host_table
