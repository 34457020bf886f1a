use Rattle.std.proofs.Common.{ℕ, sym, ap, ◌∷◌, Option}
use Rattle.follow.specs.Points.{points_of_lines}
use Rattle.follow.proofs.points.next_point.Goals as goal

pub returns-in_err-point-clause-lines : goal.returns-in_err-point-clause-lines
returns-in_err-point-clause-lines c =
    let rest = points_of_lines c.first_line.result.1.now in
    rw c.from_residual.ensures (rest, rw c.first_line.ensures.lines (ap (λ (p : Option ℕ). p ∷ rest) (sym c.in_err-point.ensures)))

pub returns-clause-lines : goal.returns-clause-lines
returns-clause-lines c = rw c.first_line.ensures.lines (ap (λ (p : Option ℕ). p ∷ points_of_lines c.first_line.result.1.now) (sym c.in_ok-point.ensures))
