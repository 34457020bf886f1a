use Rattle.std.proofs.Common.{◌-◌, ap, arith}
use Rattle.adc7002.specs.State.{State}
use Rattle.adc7002.proofs.Runs.{stays_at_rest, stays_before}
use Rattle.adc7002.proofs.converter.Adc.calm.Goals as goal

pub returns-then-self-eq0 : goal.returns-then-self-eq0
returns-then-self-eq0 c =
    let same = ap (λ (a : State). a.left) c.self.view_is in
    stays_at_rest 18446744073709551615 c.args.self.now (omega (arith, same, c.if-self-eq0.true))

pub returns-else-self-eq0 : goal.returns-else-self-eq0
returns-else-self-eq0 c =
    let same = ap (λ (a : State). a.left) c.self.view_is in
    stays_before (c.from.result - 1) c.args.self.now (omega (arith, same, c.if-self-eq0.false, c.from.ensures))
