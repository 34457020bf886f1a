use Rattle.std.proofs.Common.{◌≡◌, ◌∙◌, ap, max, arith}
use Rattle.std.specs.Prelude.{slice_set}
use Rattle.host_bus.specs.Bus.{BusState, bus_after_write}
use Rattle.host_bus.specs.Closing.{board-still}
use Rattle.host_bus.specs.View.{bus_stepped}
use Rattle.host_bus.proofs.CalmThere.{behind-written}
use Rattle.host_bus.proofs.Places.{ram-written}
use Rattle.host_bus.proofs.bus.Bus.put_stepped.Goals as goal

pub invariant_of-self : goal.invariant_of-self
invariant_of-self g c =
    let h = c.settle.new.self.behind in
    record { behind = behind-written c.settle.new.self.closed c.args.at c.args.v h c.store.ensures (omega arith) h.near h.room }

pub returns : goal.returns
returns g c =
    let b = c.settle.new.self in
    let there : b.board.closed ≡ max b.closed b.board.closed = ap (λ (s : BusState). s.board.closed) c.settle.ensures.stepped in
    rw (c.store.ensures, board-still (record b.board { ram = slice_set b.board.ram c.args.at c.args.v }) b.closed (omega (arith, there)))
    (ram-written (bus_stepped g.D.BusDevice.plug b) c.args.at c.args.v c.requires.ram
    ∙ ap (λ (s : BusState). bus_after_write s c.args.at c.args.v) (c.settle.ensures.stepped ∙ c.settle.ensures.same ∙ c.close.ensures))
