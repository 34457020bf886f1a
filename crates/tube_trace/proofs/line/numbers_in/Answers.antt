use Rattle.std.proofs.Common.{◌∙◌}
use Rattle.tube_trace.proofs.NumberLemmas.{no_high, no_low, no_byte, all_numbers}
use Rattle.tube_trace.proofs.line.numbers_in.Goals as goal

pub returns-in_err-high : goal.returns-in_err-high
returns-in_err-high c = c.from_residual.ensures ∙ no_high c.args.line.now c.in_err-high.ensures.value

pub returns-in_err-low : goal.returns-in_err-low
returns-in_err-low c = c.from_residual-in_err-low.ensures ∙ no_low c.args.line.now c.in_err-low.ensures.value

pub returns-in_err-byte : goal.returns-in_err-byte
returns-in_err-byte c = c.from_residual-in_err-byte.ensures ∙ no_byte c.args.line.now c.in_err-byte.ensures.value

pub returns : goal.returns
returns c = all_numbers c.args.line.now c.requires c.in_ok-high.ensures.value c.in_ok-low.ensures.value c.in_ok-byte.ensures.value
