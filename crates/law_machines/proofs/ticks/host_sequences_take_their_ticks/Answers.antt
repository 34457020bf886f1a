use Rattle.law_machines.proofs.HostTaking.{host_takes}
use Rattle.law_machines.proofs.ticks.host_sequences_take_their_ticks.Goals as goal

pub returns : goal.returns
returns c = host_takes
