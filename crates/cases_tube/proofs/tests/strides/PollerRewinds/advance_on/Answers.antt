use Rattle.cases_tube.proofs.Goes.{goes_heard}
use Rattle.cases_tube.proofs.tests.strides.PollerRewinds.advance_on.Goals as goal

pub returns-clause-goes : goal.returns-clause-goes
returns-clause-goes g c = goes_heard c.advance_at.ensures
