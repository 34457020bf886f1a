use Rattle.std.proofs.Common.{◌≡◌, ◌≤◌, ◌++◌}
use Rattle.cmd_outcome.specs.Outputs.{plugs}
use Rattle.cmd_outcome.proofs.plugs.push_plugs.Given as goal

abbrev pub invariant-loop-number : goal.invariant-loop-number
invariant-loop-number l = (l.outputs.items ≡ l.initial.outputs.items ++ plugs l.number) × (l.number ≤ l.count)
