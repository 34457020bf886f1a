use Rattle.std.proofs.Common.{◌∙◌, sym}
use Rattle.tube_trace.proofs.NumberLemmas.{not_long, not_parted, no_numbers, with_numbers}
use Rattle.tube_trace.proofs.line.entry_of.Goals.{then-line-ne-LENGTH-via-then-line-ne-LENGTH, then-line-ne-LENGTH-via-else-line-ne-LENGTH+then-not-is_parted}
use Rattle.tube_trace.proofs.line.entry_of.Goals as goal

pub returns-then-line-ne-LENGTH-clause-value : goal.returns-then-line-ne-LENGTH-clause-value
returns-then-line-ne-LENGTH-clause-value c = elim c.then-line-ne-LENGTH.branch [
  | then-line-ne-LENGTH-via-then-line-ne-LENGTH w ↦ not_long c.args.line.now w.if-line-ne-LENGTH.true
  | then-line-ne-LENGTH-via-else-line-ne-LENGTH+then-not-is_parted w ↦ not_parted c.args.line.now (sym w.is_parted.ensures ∙ w.if-not-is_parted.true)
]

pub returns-in_err-tick-clause-value : goal.returns-in_err-tick-clause-value
returns-in_err-tick-clause-value c = c.from_residual.ensures ∙ no_numbers c.args.line.now c.in_err-tick.ensures

pub returns-clause-value : goal.returns-clause-value
returns-clause-value c =
    with_numbers c.args.line.now c.if-line-ne-LENGTH.false
    (sym c.is_parted.ensures ∙ c.if-not-is_parted.false) c.in_ok-tick.ensures c.entry_from.ensures
