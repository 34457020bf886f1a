use Rattle.std.proofs.Common.{◌≡◌, ◌≤◌, ◌+◌, ◌*◌, max, subst, arith}
use Rattle.beeb_bits.specs.declared.clock.Clock.{Clock}
use Rattle.beeb_bits.specs.Clock.{host}
use Rattle.cpu_core.specs.declared.Sequence.TheVariants.{Instruction}
use Rattle.cpu_core.specs.Sequences.{fresh}
use Rattle.host_bus.specs.Bus.{clock_of, closed_at}
use Rattle.host_mach.specs.State.{HostBusState}
use Rattle.host_mach.specs.View.{host_bus_seen}
use Rattle.host_mach.specs.Lawful.{host_wired}
use Rattle.host_mach.specs.Whole.{carried-clock, comes_behind}
use Rattle.host_mach.proofs.bus.HostBusTubeBusUnit.whole.Goals as goal

pub returns-clause-closed : goal.returns-clause-closed
returns-clause-closed g c =
    λ some.
    let b : HostBusState = host_bus_seen g.D.BusDevice.plug c.args.self.now in
    let new : HostBusState = host_bus_seen g.D.BusDevice.plug c.whole.new.memory in
    let done = c.whole.ensures.done some in
    let clock : clock_of new.bus ≡ clock_of b.bus = carried-clock c.args.part c.args.t c.whole.result (fresh Instruction c.args.regs.now) b done.last new done.carried in
    comes_behind (host (clock_of b.bus)) c.args.t c.whole.result (closed_at new.bus) (omega (arith, host_wired.some b)) some
    (subst (λ (x : Clock). closed_at new.bus ≤ c.args.t + max 1 (host x * c.whole.result)) clock c.whole.ensures.order)
