use Rattle.std.proofs.Common.{◌∙◌, sym, arith, ◌+◌, ◌-◌, ◌<◌, ◌≤◌}
use Rattle.wd1770.specs.CodeQuiet.{later, quiet_steps}
use Rattle.wd1770.proofs.Runs.{no_steps}
use Rattle.wd1770.proofs.Passing.{quiet_many, goes_on}
use Rattle.wd1770.proofs.fdc.Fdc.some_steps.Goals as goal

pub returns-then-not-is_busy-clause-rest : goal.returns-then-not-is_busy-clause-rest
returns-then-not-is_busy-clause-rest c = no_steps c.rest.new.self ∙ c.rest.ensures

pub returns-then-n-quiet-clause-rest : goal.returns-then-n-quiet-clause-rest
returns-then-n-quiet-clause-rest c =
    let s = c.self.inside.controller in
    let inside : c.self.inside.past + c.args.n ≤ quiet_steps s.command s.angle s.sector = omega (arith, c.from-quiet.ensures, c.self.invariant.0, c.self.invariant.1) in
    rw (← c.self.view_is) (no_steps (later (c.self.inside.past + c.args.n) s) ∙ sym (quiet_many c.args.n c.self.inside.past s inside))

pub returns-clause-rest : goal.returns-clause-rest
returns-clause-rest c =
    let b = c.self.inside in
    let past : b.quiet - b.past < c.args.n = omega (arith, c.from-quiet.ensures) in
    rw (c.from-quiet.ensures, c.work.ensures, ← c.self.view_is) (goes_on c.args.n b.past b.quiet b.controller c.self.invariant.0 c.self.invariant.1 past)
