use Rattle.std.proofs.Common.{◌≤◌, refl, max, arith}
use Rattle.host_bus.specs.Closing.{board-again}
use Rattle.host_bus.proofs.bus.Bus.close.Goals as goal

pub returns-then-t-self : goal.returns-then-t-self
returns-then-t-self g c =
    let b = c.args.self.now in
    let low : max b.closed b.board.closed ≤ c.args.t = c.requires.low in
    rw (board-again b.board b.closed c.args.t (omega (arith, low))) refl
