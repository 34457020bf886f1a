use Rattle.std.proofs.Common.{◌≡◌, ◌∙◌, sym, ap, arith, ℕ, ◌≤◌}
use Rattle.via6522.specs.Lines.{levels_of}
use Rattle.via6522.specs.Step.{steps}
use Rattle.via6522.specs.CodeQuiet.{levels_in, pins_with}
use Rattle.via6522.proofs.Runs.{no_steps}
use Rattle.via6522.proofs.Jumps.{in_full, quiet_steps_pass}
use Rattle.via6522.proofs.via.Via.advance.Goals as goal

pub returns-then-lines : goal.returns-then-lines
returns-then-lines c =
    let same : levels_of c.args.pins ≡ (c.self.inside.chip).levels =
    sym c.lines_of-lines.ensures ∙ ap levels_in c.if-lines.true ∙ c.lines.ensures in
    let within : c.args.n ≤ c.self.inside.quiet = omega arith in
    sym (quiet_steps_pass c.args.pins c.args.n c.self.inside.quiet c.self.inside.chip within c.self.invariant.0 same) ∙ ap (steps c.args.pins c.args.n) c.self.view_is

pub returns-then-n-gt0 : goal.returns-then-n-gt0
returns-then-n-gt0 c =
    c.advance_in_full.ensures ∙ in_full c.args.pins (pins_with c.lines_of-lines.result) c.args.n c.args.self.now c.lines_of-lines.ensures c.if-n-gt0.true

pub returns-else-n-gt0 : goal.returns-else-n-gt0
returns-else-n-gt0 c =
    let none : c.args.n ≡ 0 = omega arith in
    sym (ap (λ (k : ℕ). steps c.args.pins k c.args.self.now) none ∙ no_steps c.args.pins c.args.self.now)
