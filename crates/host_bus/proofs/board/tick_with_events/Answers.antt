use Rattle.beeb_bits.specs.Clock.{micro}
use Rattle.host_devices.proofs.Beats.{some-micro, next-any}
use Rattle.host_bus.proofs.board.tick_with_events.Goals as goal

pub returns-clause-next : goal.returns-clause-next
returns-clause-next c =
    next-any (micro c.args.clock) c.args.k c.play.new.self.event c.min.result (some-micro c.args.clock) (rw c.micro-micro.ensures.value at c.min.ensures)
