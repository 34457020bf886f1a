use Rattle.law_sessions.proofs.InOrder.{refusals_in_order}
use Rattle.law_sessions.proofs.refusals.refusals_in_order.Goals as goal

pub returns : goal.returns
returns c = refusals_in_order c.lengths_come_first.ensures
