use Rattle.std.proofs.Common.{ap}
use Rattle.std.specs.Option.{is_some}
use Rattle.cmd_session.proofs.going.bring_back.Goals as goal

pub resume-requires-clause-entries : goal.resume-requires-clause-entries
resume-requires-clause-entries g c =
    c.entries_below-before.ensures.trace (c.args.moment).0
    (record { entries = c.requires.entries.each; rises = c.requires.entries.rises; below = c.requires.entries.low; answered = c.first_wrong.ensures.none.0 (ap is_some c.in_default.is) })
