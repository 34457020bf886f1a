use Rattle.std.proofs.Common.{◌≡◌, ◌≤◌, ◌∙◌, ap, sym, max, arith}
use Rattle.std.specs.Prelude.{slice_set}
use Rattle.host_bus.specs.Board.{BoardState, board_closed}
use Rattle.host_bus.specs.Bus.{bus_closed}
use Rattle.host_bus.specs.Closing.{board-again}
use Rattle.host_bus.specs.View.{bus_seen}
use Rattle.host_bus.proofs.CalmThere.{behind-written}
use Rattle.host_bus.proofs.Places.{ram-written}
use Rattle.host_bus.proofs.Unseen.{stored-behind}
use Rattle.host_bus.proofs.bus.Bus.put.Goals as goal

pub invariant_of-self : goal.invariant_of-self
invariant_of-self g c =
    let b = c.args.self.now in
    let low : max b.closed b.board.closed ≤ c.args.t = c.requires.low in
    record { behind = behind-written c.args.t c.args.at c.args.v b.behind c.store.ensures (omega (arith, low)) c.if-t-self.true c.requires.room }

pub returns-then-at-lowest-clause-after : goal.returns-then-at-lowest-clause-after
returns-then-at-lowest-clause-after g c =
    let b = c.args.self.now in
    let seen = bus_seen g.D.BusDevice.plug b in
    let there = bus_closed seen c.args.t in
    let low : max b.closed b.board.closed ≤ c.args.t = c.requires.low in
    let again : board_closed b.board c.args.t ≡ there.board = sym (board-again b.board b.closed c.args.t (omega (arith, low))) in
    rw c.store.ensures (ap (λ (s : BoardState). record seen { board = s })
    (stored-behind c.reads_go_on.ensures c.stores_below_are_unseen.ensures c.lowest.result c.args.at c.args.v c.if-at-lowest.true b.board c.args.t c.lowest.ensures
    ∙ ap (λ (s : BoardState). record s { ram = slice_set s.ram c.args.at c.args.v }) again)
    ∙ ram-written there c.args.at c.args.v c.requires.ram)
