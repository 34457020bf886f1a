use Rattle.std.proofs.Common.{ap, arith, ◌+◌, ◌≤◌}
use Rattle.wd1770.specs.State.{State}
use Rattle.wd1770.specs.CodeQuiet.{quiet_steps}
use Rattle.wd1770.proofs.Passing.{quiet_rests}
use Rattle.wd1770.proofs.fdc.Fdc.calm.Goals as goal

pub returns-clause-rest : goal.returns-clause-rest
returns-clause-rest c =
    let s = c.self.inside.controller in
    let inside : c.self.inside.past + c.from.result ≤ quiet_steps s.command s.angle s.sector = omega (arith, c.from.ensures, c.self.invariant.0, c.self.invariant.1) in
    rw (← c.self.view_is) (quiet_rests c.from.result c.self.inside.past s inside)

pub returns-clause-nmis : goal.returns-clause-nmis
returns-clause-nmis c = λ m within. ap (λ (s : State). s.nmis) (returns-clause-rest c m within)
