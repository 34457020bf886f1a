use Rattle.session.proofs.Ends.{ended}
use Rattle.session.proofs.pair.joined.Goals as goal

pub returns : goal.returns
returns g c s t n keep p q ps qs wh wp =
    ended c.legal_merge_is_reference.ensures s t p q ps qs c.join-chip.ensures.legal c.join-chip.ensures.chip wh wp
