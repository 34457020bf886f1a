use Rattle.std.proofs.Common.{◌∙◌, ap, arith}
use Rattle.tube_machine.proofs.steps.take_lines.Goals as goal

pub returns-then-not-resets-clause-before : goal.returns-then-not-resets-clause-before
returns-then-not-resets-clause-before g c =
    let w = g.B.TubeBus.bus_model in
    let is = ap w.closed c.take-interrupts.ensures.taken ∙ g.B.TubeBus.wired.closed_taken _ _ ∙ ap w.closed c.close.ensures.closed ∙ g.B.TubeBus.wired.closed _ _ in
    omega (arith, is, c.requires.before)
