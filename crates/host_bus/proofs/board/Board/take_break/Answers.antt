use Rattle.std.proofs.Common.{◌∙◌, ap, arith}
use Rattle.host_bus.specs.Board.{BoardState, break_pending}
use Rattle.host_devices.proofs.Pressed.{pending-due}
use Rattle.host_bus.proofs.board.Board.take_break.Goals as goal

pub take-requires-clause-due : goal.take-requires-clause-due
take-requires-clause-due c =
    let b = c.self.inside in
    let kept = c.self.invariant.next_break in
    let due = pending-due c.args.t b.breaks.place b.playback.script kept.rules.order (ap (λ (s : BoardState). break_pending s c.args.t) c.self.view_is ∙ c.requires.pending) in
    omega (arith, due, kept.next)
