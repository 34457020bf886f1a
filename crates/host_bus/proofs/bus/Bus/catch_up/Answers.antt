use Rattle.std.proofs.Common.{◌≡◌, ◌≤◌, ap, refl, max, arith}
use Rattle.host_bus.specs.Board.{BoardState}
use Rattle.host_bus.specs.Closing.{board-again}
use Rattle.host_bus.proofs.bus.Bus.catch_up.Goals as goal

pub invariant_of-self : goal.invariant_of-self
invariant_of-self g c =
    let b = c.args.self.now in
    let low : max b.closed b.board.closed ≤ c.args.t = c.requires.low in
    let there : c.close.new.self.closed ≡ max c.args.t b.board.closed = ap (λ (s : BoardState). s.closed) c.close.ensures in
    record {
      behind = record {
        reached = omega (arith, there, low);
        near = omega (arith, there, c.calm-self.ensures.low);
        room = c.requires.room;
        lines = c.calm-self.ensures.calm;
      };
    }

pub returns : goal.returns
returns g c =
    let b = c.args.self.now in
    let t = c.args.t in
    let low : max b.closed b.board.closed ≤ t = c.requires.low in
    rw (c.close.ensures, board-again b.board t t (omega arith), board-again b.board b.closed t (omega (arith, low))) refl
