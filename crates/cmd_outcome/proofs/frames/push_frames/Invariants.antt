use Rattle.std.proofs.Common.{◌≡◌, ◌≤◌, ◌++◌}
use Rattle.cmd_outcome.specs.Outputs.{frames}
use Rattle.cmd_outcome.proofs.frames.push_frames.Given as goal

abbrev pub invariant-loop-number : goal.invariant-loop-number
invariant-loop-number l = (l.outputs.items ≡ l.initial.outputs.items ++ frames l.number) × (l.number ≤ l.count)
