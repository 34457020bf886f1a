use Rattle.std.proofs.Common.{◌≤◌, ℕ, subst, sym}
use Rattle.tube_trace.proofs.HexTables.{VALUES-at, value_fits}
use Rattle.tube_trace.proofs.hex.value.Goals as goal

pub returns-clause-value : goal.returns-clause-value
returns-clause-value c = VALUES-at c.args.b _ c.ranges.b.fits

pub returns-clause-bound : goal.returns-clause-bound
returns-clause-bound c = subst (λ (r : ℕ). r ≤ 1048576) (sym (VALUES-at c.args.b _ c.ranges.b.fits)) (value_fits c.args.b)
