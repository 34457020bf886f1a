use Rattle.std.proofs.Common.{sym}
use Rattle.tube_side.proofs.SpecHorizons.{told_first}
use Rattle.tube_side.proofs.spec_horizon.publish_on.Goals as goal

pub returns-clause-speculative : goal.returns-clause-speculative
returns-clause-speculative g c hit =
    told_first c.requires.is_speculation c.args.t.0 c.args.pass.now
    c.requires.side c.requires.none_speculative (sym c.requires.speculation.0) c.requires.later c.requires.order (c.publish_observed.ensures.speculated hit)
