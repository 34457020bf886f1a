use Rattle.tube_party.proofs.Seeing.{stays_asking}
use Rattle.tube_party.proofs.rewinds.Rewinds.advance_on.Goals as goal

pub returns-clause-goes : goal.returns-clause-goes
returns-clause-goes g c = stays_asking g.Self.Party.transitions g.D.TubePort.answers c.args.until.0 _ _ _ c.args.ask c.requires.pending
