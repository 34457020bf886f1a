use Rattle.std.proofs.Common.{◌∙◌, sym}
use Rattle.tube_party.proofs.CursorLemmas.{takes_here, misses_here}
use Rattle.tube_party.proofs.cursor.take.Goals as goal

pub returns-then-is_that : goal.returns-then-is_that
returns-then-is_that c = λ side n own. takes_here c.args.trace.now side n c.args.at c.args.tick.0 c.args.op _ c.if-at-trace.false (sym c.is_that.ensures ∙ c.if-is_that.true) own

pub returns-else-is_that : goal.returns-else-is_that
returns-else-is_that c = λ side n own. misses_here c.args.trace.now side n c.args.at c.args.tick.0 c.args.op _ c.if-at-trace.false (sym c.is_that.ensures ∙ c.if-is_that.false) own
