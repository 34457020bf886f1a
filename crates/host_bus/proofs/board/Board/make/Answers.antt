use Rattle.std.proofs.Common.{arith}
use Rattle.std.proofs.Math.Nat.{zero-mod}
use Rattle.beeb_bits.specs.Clock.{micro}
use Rattle.host_devices.proofs.Beats.{some-micro}
use Rattle.host_devices.proofs.Heard.{first-in-time}
use Rattle.host_bus.proofs.board.Board.make.Goals as goal

pub invariant_of-result : goal.invariant_of-result
invariant_of-result c =
    let made = c.in_ok-memory.ensures in
    let kept = rw made.0 at c.both-kept.ensures in
    let heard = rw made.1 at c.both-made.ensures in
    let first = rw kept.0 at c.first_memory.ensures in
    let played = rw kept.1 at c.make.ensures in
    record {
      stored = record { memory = first.memory; addresses = first.addresses; shows = rw first.ram first.shows; slot = omega arith };
      played = played.played;
      on_time = record { step = 0; begins = zero-mod (micro c.args.clock); first = omega arith; near = omega (arith, some-micro c.args.clock); least = omega arith };
      in_time = first-in-time c.args.clock (rw heard.0 at c.make-2.ensures);
      next_break = rw c.events.ensures.events at c.new-breaks.ensures.next;
    }
