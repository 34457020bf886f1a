use Rattle.std.proofs.Common.{◌≤◌, ◌+◌, ◌*◌, arith}
use Rattle.host_bus.proofs.Closed.{calm-until}
use Rattle.host_bus.proofs.board.Board.calm.Goals as goal

pub returns-clause-calm : goal.returns-clause-calm
returns-clause-calm c =
    let b = c.self.inside in
    let most : c.min.result ≤ b.next + c.calm.result * c.micro.result = omega (arith, c.min.ensures, c.saturating_add.ensures, c.saturating_mul-ticks.ensures) in
    rw (← c.self.view_is) (calm-until c.min.result c.self.invariant (c.calm.ensures b.ram.items b.glyphs.font) (omega (arith, c.min.ensures)) (rw c.micro.ensures.value at most))
