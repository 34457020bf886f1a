use Rattle.std.proofs.Common.{◌∙◌, ◌+◌, ◌==◌, ℕ, sym, ap}
use Rattle.std.specs.Prelude.{if◌then◌else◌}
use Rattle.crtc6845.specs.Rests.{clocks_past_frame}
use Rattle.crtc6845.proofs.Rests.{past_from}
use Rattle.crtc6845.proofs.crtc.Crtc.rest.Goals as goal

pub returns-clause-from : goal.returns-clause-from
returns-clause-from c = λ y.
    let n = c.args.n in
    let chip = c.args.self.now in
    past_from n y chip
    ∙ ap (λ (f : ℕ). if f == 0 then y + n else clocks_past_frame n 0 chip) (sym c.rest_by_turns.ensures.frames)
    ∙ ap (λ (p : ℕ). if c.rest_by_turns.result.frames == 0 then y + n else p) (sym c.rest_by_turns.ensures.past)
