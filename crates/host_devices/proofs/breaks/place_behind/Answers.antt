use Rattle.std.proofs.Common.{arith}
use Rattle.host_devices.proofs.Pressed.{all-before, all-taken, none-come}
use Rattle.host_devices.proofs.breaks.place_behind.Goals as goal

pub loop-place-init : goal.loop-place-init
loop-place-init c = record {
  within = c.requires.within;
  come = all-before 0 c.args.from c.args.events.now c.requires.rules.order c.requires.due (omega (arith, c.requires.room));
}

pub returns-else-events-place-clause-taken : goal.returns-else-events-place-clause-taken
returns-else-events-place-clause-taken c =
    all-taken c.args.t c.loop-place.place c.args.events.now c.loop-place.invariant.come
    (none-come c.args.events.now _ c.requires.rules.order c.loop-place-test.true c.if-events-place.false)
