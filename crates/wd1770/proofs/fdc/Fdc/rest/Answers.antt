use Rattle.std.proofs.Common.{◌≡◌, ◌∙◌, ap, ℕ}
use Rattle.wd1770.specs.CodeQuiet.{later}
use Rattle.wd1770.proofs.Passing.{rest_is}
use Rattle.wd1770.proofs.fdc.Fdc.rest.Goals as goal

pub returns : goal.returns
returns c =
    let before : c.pass.new.self ≡ c.args.self.now = c.pass.ensures ∙ ap (λ (k : ℕ). later k c.self.inside.controller) c.from.ensures ∙ c.self.view_is in
    rest_is c.args.n c.args.self.now c.pass-2.new.self c.requires (c.pass-2.ensures ∙ ap (later c.args.n) before)
