use Rattle.std.proofs.Common.{◌≡◌, ◌+◌, ◌≤◌, drop}
use Rattle.cmd_replay.specs.Replay.{side_count}
use Rattle.cmd_replay.proofs.counting.side_count.Given as goal

abbrev pub invariant-loop-entry : goal.invariant-loop-entry
invariant-loop-entry l = (l.count + side_count l.side l.n.0 (drop l.entry-index l.entries) ≡ side_count l.side l.n.0 l.entries) × (l.count ≤ l.entry-index)
