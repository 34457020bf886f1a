use Rattle.tube_side.proofs.Waits.{told_low}
use Rattle.tube_side.proofs.at_cell.tell.Goals as goal

pub returns-then-publish-clause-later : goal.returns-then-publish-clause-later
returns-then-publish-clause-later g c = told_low c.loop.pass c.args.t.0 c.loop.invariant.later (c.publish.ensures.published c.if-publish.true)
