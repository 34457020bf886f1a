use Rattle.std.proofs.Common.{refl, arith}
use Rattle.host_bus.specs.View.{bus_seen}
use Rattle.host_bus.proofs.Peeks.{peek-low, peek-top}
use Rattle.host_bus.proofs.bus.Bus.peek.Goals as goal

pub returns-then-at-lt64512-clause-value : goal.returns-then-at-lt64512-clause-value
returns-then-at-lt64512-clause-value g c =
    rw (c.memory.ensures.answer 0, peek-low (bus_seen g.D.BusDevice.plug c.args.self.now) 0 c.args.at c.if-at-lt64512.true) refl

pub returns-clause-value : goal.returns-clause-value
returns-clause-value g c =
    rw (c.memory-2.ensures.answer 0, peek-top (bus_seen g.D.BusDevice.plug c.args.self.now) 0 c.args.at (omega (arith, c.if-at-le65279.false)) (omega (arith, c.ranges.at.fits))) refl
