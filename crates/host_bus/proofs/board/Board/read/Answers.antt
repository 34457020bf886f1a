use Rattle.std.proofs.Common.{◌≡◌, ◌∙◌, ◌+◌, ap, ℕ, List, arith}
use Rattle.keyboard.specs.Keys.{Keys, keys_of}
use Rattle.host_devices.specs.Devices.{register_answer}
use Rattle.host_bus.specs.Board.{BoardState}
use Rattle.host_devices.specs.CodePicture.{drawn}
use Rattle.host_bus.specs.CodeBoard.{board_seen}
use Rattle.host_devices.proofs.Played.{stay}
use Rattle.host_bus.proofs.board.Board.read.Goals as goal

pub returns-clause-answer : goal.returns-clause-answer
returns-clause-answer c = λ t at.
    let b = c.self.inside in
    let played = c.self.invariant.played in
    let closed : b.closed ≡ t + 1 = ap (λ (s : BoardState). s.closed) c.self.view_is ∙ at in
    let (typed, set) = stay t played (omega (arith, closed)) (omega (arith, closed, played.early)) in
    rw (← c.self.view_is, c.device_at.ensures) (c.read.ensures.answer
    ∙ ap (λ (ram : List ℕ). register_answer c.device_at.result c.args.at (keys_of b.playback.keys) (drawn ram b.glyphs.font b.devices)) c.deref.ensures.value
    ∙ ap (λ (f : Keys). register_answer c.device_at.result c.args.at f (board_seen b).devices) typed)
