use Rattle.std.proofs.Common.{◌≡◌, ◌++◌, drop}
use Rattle.follow.specs.CodeTally.{table_lines}
use Rattle.follow.proofs.tally.Tally.push_lines.Given as goal

abbrev pub invariant-loop-at : goal.invariant-loop-at
invariant-loop-at l = l.text.items ++ table_lines l.at (drop l.at l.self.table.items) ≡ l.fn.text.items ++ table_lines 0 l.self.table.items
