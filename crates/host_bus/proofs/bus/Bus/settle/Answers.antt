use Rattle.std.proofs.Common.{refl, arith}
use Rattle.host_bus.specs.Closing.{board-again, board-still}
use Rattle.host_bus.specs.Board.{board_closed}
use Rattle.host_bus.proofs.bus.Bus.settle.Goals as goal

pub returns : goal.returns
returns g c =
    let b = c.args.self.now in
    record {
      same = rw (c.close.ensures, board-again b.board b.closed b.closed (omega arith)) refl;
      stepped = rw (c.close.ensures, board-still (board_closed b.board b.closed) b.closed (omega arith)) refl;
    }
