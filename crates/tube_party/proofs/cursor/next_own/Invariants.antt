use Rattle.std.proofs.Common.{length, ◌-◌, ◌≡◌, ◌≤◌}
use Rattle.tube_party.specs.CodeCursor.{own_left}
use Rattle.tube_party.proofs.cursor.next_own.Given as goal

-- the entries passed over are not of the side, or not below the tick
abbrev pub invariant-loop-at : goal.invariant-loop-at
invariant-loop-at l = record {
  within : l.at ≤ length l.trace;
  left : own_left l.trace l.side l.until.0 l.from ≡ own_left l.trace l.side l.until.0 l.at;
}

abbrev pub decreases-loop-at : goal.decreases-loop-at
decreases-loop-at l = length l.trace - l.at
