use Rattle.tube_party.proofs.CursorLemmas.{next_line_here, next_line_past}
use Rattle.tube_party.proofs.cursor.next_line.Goals as goal

pub returns-then-at-trace : goal.returns-then-at-trace
returns-then-at-trace c = λ side n own. next_line_here c.args.trace.now side n c.args.at c.if-at-trace.true own

pub returns-else-at-trace : goal.returns-else-at-trace
returns-else-at-trace c = λ side n own. next_line_past c.args.trace.now side n c.args.at c.if-at-trace.false
