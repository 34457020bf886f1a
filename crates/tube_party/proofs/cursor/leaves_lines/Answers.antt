use Rattle.std.proofs.Common.{sym, ◌∙◌}
use Rattle.tube_party.proofs.CursorLemmas.{same-lines}
use Rattle.tube_party.proofs.cursor.leaves_lines.Goals as goal

pub returns-clause-kept : goal.returns-clause-kept
returns-clause-kept c = λ is. sym (same-lines c.lines.result c.args.lines.now (sym c.eq.ensures ∙ is)) ∙ c.lines.ensures
