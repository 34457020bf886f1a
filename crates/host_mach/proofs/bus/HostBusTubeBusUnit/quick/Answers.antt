use Rattle.std.proofs.Common.{◌≡◌, ◌+◌, ◌∙◌, sym, ℕ, true, arith}
use Rattle.std.specs.Prelude.{nat_lt}
use Rattle.std.proofs.lemmas.Bool.{lt-ltb, and_right}
use Rattle.host_mach.specs.State.{HostBusState}
use Rattle.host_mach.specs.Step.{is_tube, host_bus_model}
use Rattle.host_mach.specs.View.{host_bus_seen}
use Rattle.host_mach.specs.Whole.{host_memory}
use Rattle.host_mach.proofs.bus.HostBusTubeBusUnit.quick.Goals as goal

-- a read is done without closing: no device step changes what it yields
pub returns-else-at-ge64512-clause-done : goal.returns-else-at-ge64512-clause-done
returns-else-at-ge64512-clause-done g c =
    let b : HostBusState = host_bus_seen g.D.BusDevice.plug c.args.self.now in
    let closed : HostBusState = host_bus_model.close b (c.args.t + 1) in
    let at : ℕ = c.in-Read.at in
    let low : nat_lt at 0xFC00 ≡ true = lt-ltb at 0xFC00 (omega (arith, c.if-at-ge64512.false)) in
    let apart = and_right b.tube (is_tube at) (host_memory.read_apart at low) in
    rw c.in-Read.is (
      rw apart,
      rw apart (c.memory.ensures.answer 0 ∙ sym (host_memory.shows b c.args.t (c.args.t + 1) at low)),
      sym (host_memory.read_leaves closed at low),
      host_memory.read_ticks closed c.args.t at low,
    )
