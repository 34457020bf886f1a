use Rattle.law_machines.proofs.HostCycles.{host_keeps}
use Rattle.law_machines.proofs.ticks.the_host_keeps_to_its_cycles.Goals as goal

pub returns : goal.returns
returns c = host_keeps
