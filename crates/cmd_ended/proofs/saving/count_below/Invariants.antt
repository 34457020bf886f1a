use Rattle.std.proofs.Common.{◌≡◌, ◌++◌, take, drop}
use Rattle.tube_party.specs.GoingOn.{entries_below}
use Rattle.cmd_ended.proofs.saving.count_below.Given as goal

abbrev pub invariant-loop-place : goal.invariant-loop-place
invariant-loop-place l = entries_below l.tick.0 l.entries ≡ take l.place l.entries ++ entries_below l.tick.0 (drop l.place l.entries)
