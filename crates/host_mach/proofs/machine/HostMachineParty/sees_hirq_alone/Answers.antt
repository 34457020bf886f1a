use Rattle.host_mach.specs.Lawful.{host_sees}
use Rattle.host_mach.proofs.machine.HostMachineParty.sees_hirq_alone.Goals as goal

pub returns : goal.returns
returns g c = λ _. host_sees
