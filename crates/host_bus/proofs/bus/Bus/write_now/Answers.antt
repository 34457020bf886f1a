use Rattle.std.proofs.Common.{◌∙◌, ap, sym, arith}
use Rattle.host_bus.specs.Bus.{BusState, bus_after_write, closed_at}
use Rattle.host_bus.specs.Closing.{closed-still}
use Rattle.host_bus.specs.View.{bus_seen}
use Rattle.host_bus.proofs.Places.{ram-written}
use Rattle.host_bus.proofs.bus.Bus.write_now.Goals as goal

pub returns-then-at-lt32768 : goal.returns-then-at-lt32768
returns-then-at-lt32768 g c =
    let b = bus_seen g.D.BusDevice.plug c.args.self.now in
    let after =
    c.put.ensures.after ∙ ap (λ (s : BusState). bus_after_write s c.args.at c.args.v) (closed-still b c.args.self.now.closed (omega arith)) in
    record { after = after; closed = ap closed_at (after ∙ sym (ram-written b c.args.at c.args.v c.if-at-lt32768.true)) }
