use Rattle.keyboard.specs.Latch.{screen_size}
use Rattle.host_bus.proofs.board.Board.lowest.Goals as goal

pub returns : goal.returns
returns c =
    let b = c.self.inside in
    let d = b.devices.devices in
    rw (← c.self.view_is) (c.reads_go_on.ensures c.lowest.result (screen_size d.latch) b.devices.owed b.ram.items b.glyphs.font d.video c.lowest.ensures)
