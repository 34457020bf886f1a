use Rattle.std.proofs.Common.{◌%◌}
use Rattle.tube_chip.specs.declared.Op.TheVariants as op
use Rattle.host_mach.specs.View.{host_bus_seen}
use Rattle.host_mach.specs.TubeAccess.{tube-skip}
use Rattle.host_mach.proofs.bus.HostBusTubeBusUnit.asked.Goals as goal

pub returns-in-Read : goal.returns-in-Read
returns-in-Read g c =
    tube-skip (host_bus_seen g.D.BusDevice.plug c.args.self.now) c.args.cycle (op.Read (c.in-Read.at % 8)) (rw (c.in-Read.is, ← c.answers.ensures, c.if-answers.true))

pub returns-in-Write : goal.returns-in-Write
returns-in-Write g c =
    tube-skip (host_bus_seen g.D.BusDevice.plug c.args.self.now) c.args.cycle (op.Write (c.in-Write.at % 8) c.in-Write.v)
    (rw (c.in-Write.is, ← c.answers-in-Write-1.ensures, c.if-answers-2.true))
