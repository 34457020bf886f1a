use Rattle.std.proofs.Common.{arith}
use Rattle.std.proofs.lemmas.Bool.Decides.{nat_tests}
use Rattle.host_bus.proofs.bus.Bus.break_pending.Goals as goal

pub returns : goal.returns
returns g c = grind (arith, nat_tests, c.break_tick.ensures.none (c.args.t).0, c.break_tick.ensures.some (c.args.t).0)
