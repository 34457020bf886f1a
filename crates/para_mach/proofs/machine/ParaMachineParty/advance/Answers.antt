use Rattle.tube_party.specs.Steps.{advances_of}
use Rattle.para_mach.proofs.machine.ParaMachineParty.advance.Goals as goal

pub returns : goal.returns
returns c = advances_of _ _ _ _ _ _ c.advance_seeing.ensures
