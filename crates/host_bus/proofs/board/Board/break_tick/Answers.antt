use Rattle.std.proofs.Common.{arith}
use Rattle.host_devices.proofs.Pressed.{not-pending, pending, number-is}
use Rattle.host_bus.proofs.board.Board.break_tick.Goals as goal

pub returns : goal.returns
returns c =
    let b = c.self.inside in
    let kept = c.self.invariant.next_break in
    rw (← c.self.view_is) (record {
      value = rw (number-is b.breaks.place b.playback.script) kept.next;
      none = λ t low. not-pending t b.breaks.place b.playback.script kept.rules.order (omega (arith, low, kept.next));
      some = λ t high room. pending t b.breaks.place b.playback.script kept.rules.order (omega (arith, high, kept.next)) (omega (arith, room));
    })
