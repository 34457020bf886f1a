use Rattle.tube_side.proofs.Waits.{told_at}
use Rattle.tube_side.proofs.at_cell.finish.Goals as goal

pub returns-then-publish-clause-horizon : goal.returns-then-publish-clause-horizon
returns-then-publish-clause-horizon g c = told_at c.loop.pass c.args.n.0 c.loop.invariant.later (c.publish.ensures.published c.if-publish.true)
