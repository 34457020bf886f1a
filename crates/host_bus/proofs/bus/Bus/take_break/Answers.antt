use Rattle.std.proofs.Common.{◌≡◌, ◌≤◌, ◌+◌, ◌∙◌, ap, max, arith}
use Rattle.host_bus.specs.Board.{BoardState, break_taken}
use Rattle.host_bus.specs.Bus.{BusState, bus_break_pending, bus_break_taken}
use Rattle.host_bus.specs.Closing.{board-still}
use Rattle.host_bus.proofs.bus.Bus.take_break.Goals as goal

pub take_break-requires-clause-pending : goal.take_break-requires-clause-pending
take_break-requires-clause-pending g c = ap (λ (s : BusState). bus_break_pending s (c.args.t).0) (c.settle.ensures.same ∙ c.close.ensures) ∙ c.requires.pending

pub invariant_of-self : goal.invariant_of-self
invariant_of-self g c =
    let b = c.settle.new.self in
    let there : b.board.closed ≡ max b.closed b.board.closed = ap (λ (s : BusState). s.board.closed) c.settle.ensures.stepped in
    let taken : c.take_break.new.self.closed ≡ b.board.closed = ap (λ (s : BoardState). s.closed) c.take_break.ensures in
    record {
      behind = record {
        reached = omega (arith, taken, b.behind.reached);
        near = omega (arith, there, taken, c.calm-self.ensures.low);
        room = b.behind.room;
        lines = c.calm-self.ensures.calm;
      };
    }

pub returns : goal.returns
returns g c =
    let b = c.settle.new.self in
    let old = c.args.self.now in
    let t = (c.args.t).0 in
    let same = c.settle.ensures.same ∙ c.close.ensures in
    let there : b.board.closed ≡ max b.closed b.board.closed = ap (λ (s : BusState). s.board.closed) c.settle.ensures.stepped in
    let low : max old.closed old.board.closed ≤ t + 1 = c.requires.later in
    let now : max b.closed b.board.closed ≡ max (t + 1) (max old.closed old.board.closed) = ap (λ (s : BusState). s.board.closed) same in
    rw (c.take_break.ensures, board-still (break_taken b.board t) b.closed (omega (arith, there)))
    (record { after = ap (λ (s : BusState). bus_break_taken s t) (c.settle.ensures.stepped ∙ same); closed = omega (arith, low, there, now) })
