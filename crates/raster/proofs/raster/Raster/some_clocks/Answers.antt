use Rattle.std.proofs.Common.{◌≡◌, ◌∙◌, sym, ap, true}
use Rattle.raster.specs.CodeQuiet.{IsQuiet}
use Rattle.raster.specs.State.{State}
use Rattle.raster.specs.Clock.{microseconds}
use Rattle.raster.specs.declared.raster.Raster.TheInside.{Inside}
use Rattle.raster.proofs.Micros.{slow_is}
use Rattle.raster.proofs.raster.Raster.some_clocks.Goals as goal

pub returns-then-self-clause-state : goal.returns-then-self-clause-state
returns-then-self-clause-state c =
    let ram = c.args.ram.now in
    let font = c.args.font.now.font in
    let known : c.self.inside.quiet ≡ true = ap (λ (inside : Inside). inside.quiet) (sym c.self-inside.view_is) ∙ c.if-self.true in
    let quiet : IsQuiet c.args.self.now = rw (← c.self.view_is) (c.self.invariant known) in
    c.rest.ensures.state ram c.args.size font ∙ ap (λ (t : State). microseconds ram c.args.size font c.args.most t) c.self.view_is
    ∙ slow_is ram c.args.size font c.args.most c.args.self.now quiet.clock
