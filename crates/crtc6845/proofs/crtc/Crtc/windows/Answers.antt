use Rattle.std.proofs.Common.{arith}
use Rattle.crtc6845.proofs.ShownAddresses.{shows_windows}
use Rattle.crtc6845.proofs.crtc.Crtc.windows.Goals as goal

pub returns-clause-shown : goal.returns-clause-shown
returns-clause-shown c =
    let low = c.row_base.ensures in
    rw (low.value, c.now_count.ensures, c.frame_start.ensures.value, c.frame_count.ensures.value)
    (shows_windows c.args.self.now (omega arith) c.frame_count.ensures.bits.vertical_total)
