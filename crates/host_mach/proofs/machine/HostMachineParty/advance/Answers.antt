use Rattle.tube_party.specs.Steps.{advances_of}
use Rattle.host_mach.proofs.machine.HostMachineParty.advance.Goals as goal

pub returns : goal.returns
returns g c = advances_of _ _ _ _ _ _ c.advance_seeing.ensures
