use Rattle.std.proofs.Common.{ap, sym}
use Rattle.host_bus.specs.Bus.{BusState}
use Rattle.host_mach.specs.State.{HostBusState}
use Rattle.host_mach.specs.View.{host_bus_seen}
use Rattle.host_mach.specs.TubeAccess.{tube-leaves, tube-ticks}
use Rattle.host_mach.proofs.bus.HostBusTubeBusUnit.answered.Goals as goal

pub returns-clause-after : goal.returns-clause-after
returns-clause-after g c =
    let b : HostBusState = host_bus_seen g.D.BusDevice.plug c.args.self.now in
    ap (λ (x : BusState). record b { bus = x }) (sym (tube-leaves b c.args._cycle c.requires))

pub returns-clause-fast : goal.returns-clause-fast
returns-clause-fast g c = λ t. tube-ticks (host_bus_seen g.D.BusDevice.plug c.args.self.now) t c.args._cycle c.requires
