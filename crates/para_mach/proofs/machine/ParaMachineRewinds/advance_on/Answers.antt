use Rattle.tube_party.proofs.Seeing.{stays_asking}
use Rattle.para_mach.specs.Step.{para_transitions}
use Rattle.para_mach.proofs.machine.ParaMachineRewinds.advance_on.Goals as goal

pub returns-then-room-lt-FEWEST-clause-goes : goal.returns-then-room-lt-FEWEST-clause-goes
returns-then-room-lt-FEWEST-clause-goes g c = stays_asking para_transitions g.K.TubePort.answers c.args.until.0 _ _ _ c.args.ask c.requires.pending
