use Rattle.std.proofs.Common.{◌∙◌}
use Rattle.session.proofs.InProgress.{quiet_is}
use Rattle.session.proofs.half.next_tick.Goals as goal

pub returns : goal.returns
returns g c =
    c.min.ensures
    ∙ quiet_is _ _ c.requires c.quiet.ensures
