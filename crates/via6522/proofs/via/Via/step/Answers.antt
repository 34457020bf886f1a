use Rattle.std.proofs.Common.{◌≡◌, ◌∙◌, sym, ap, arith, ◌<◌}
use Rattle.via6522.specs.Lines.{levels_of}
use Rattle.via6522.specs.Step.{step}
use Rattle.via6522.specs.CodeQuiet.{levels_in}
use Rattle.via6522.proofs.Quietly.{quiet_step}
use Rattle.via6522.proofs.via.Via.step.Goals as goal

pub returns-then-lines : goal.returns-then-lines
returns-then-lines c =
    let some : 0 < c.self.inside.quiet = omega (arith, c.if-self-ne0.true) in
    let same : levels_of c.args.pins ≡ (c.self.inside.chip).levels =
    sym c.lines_of-lines.ensures ∙ ap levels_in c.if-lines.true ∙ c.lines.ensures in
    sym (quiet_step c.args.pins c.self.inside.quiet c.self.inside.chip some c.self.invariant.0 same) ∙ ap (step c.args.pins) c.self.view_is
