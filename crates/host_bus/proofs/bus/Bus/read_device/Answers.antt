use Rattle.std.proofs.Common.{◌≡◌, ap, max, arith}
use Rattle.host_devices.specs.Map.{place_of}
use Rattle.host_bus.specs.Board.{BoardState, read_at}
use Rattle.host_bus.specs.Closing.{board-still}
use Rattle.host_bus.proofs.bus.Bus.read_device.Goals as goal

pub returns-clause-after : goal.returns-clause-after
returns-clause-after g c =
    let b = c.args.self.now in
    let there : c.close.new.self.closed ≡ max b.closed b.board.closed = ap (λ (s : BoardState). s.closed) c.close.ensures in
    rw (board-still c.read-byte.new.self b.closed (omega (arith, there, c.read-byte.ensures.closed)), c.read-byte.ensures.after)
    (ap (λ (s : BoardState). read_at (place_of c.args.at) c.args.at s) c.close.ensures)
