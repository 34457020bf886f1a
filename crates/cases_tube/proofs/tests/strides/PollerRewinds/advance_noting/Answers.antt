use Rattle.std.proofs.Common.{refl}
use Rattle.cases_tube.proofs.Goes.{goes_heard}
use Rattle.cases_tube.proofs.tests.strides.PollerRewinds.advance_noting.Goals as goal

pub returns : goal.returns
returns g c = (goes_heard c.advance_at.ensures, refl)
