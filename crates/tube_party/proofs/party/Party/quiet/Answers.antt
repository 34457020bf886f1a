use Rattle.tube_party.specs.Quiet.{quiet_at_due}
use Rattle.tube_party.proofs.party.Party.quiet.Goals as goal

pub returns : goal.returns
returns g c = quiet_at_due g.Self.Party.transitions _ _ g.met.Self.Party.lawful c.due.ensures
