use Rattle.std.proofs.Common.{◌∙◌, sym, ap, arith, ◌+◌, ◌≤◌}
use Rattle.wd1770.specs.Step.{steps}
use Rattle.wd1770.specs.CodeQuiet.{quiet_steps}
use Rattle.wd1770.proofs.Passing.{quiet_many}
use Rattle.wd1770.proofs.fdc.Fdc.advance.Goals as goal

pub returns-then-n-from : goal.returns-then-n-from
returns-then-n-from c =
    let s = c.self.inside.controller in
    let inside : c.self.inside.past + c.args.n ≤ quiet_steps s.command s.angle s.sector = omega (arith, c.from.ensures, c.self.invariant.0, c.self.invariant.1) in
    sym (quiet_many c.args.n c.self.inside.past s inside) ∙ ap (steps c.args.n) c.self.view_is
