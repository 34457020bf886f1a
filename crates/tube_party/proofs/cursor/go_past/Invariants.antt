use Rattle.std.proofs.Common.{length, ◌-◌, ◌≡◌, ◌≤◌, ◌<◌, ℕ, drop}
use Rattle.tube_chip.specs.State.{lines_of}
use Rattle.tube_party.specs.Replay.{chip_before}
use Rattle.tube_party.proofs.cursor.go_past.Given as goal

-- looks below the tick see the lines, and those from there on come after all entries that are done
abbrev pub invariant-loop-at : goal.invariant-loop-at
invariant-loop-at l = record {
  within : l.at ≤ length l.trace;
  kept : l.lines ≡ lines_of l.chip;
  early : (t : ℕ) → t < l.safe_until → t < 1073741824 → lines_of (chip_before l.side t l.initial.chip (drop l.from l.trace)) ≡ l.lines;
  late : (t : ℕ) → l.safe_until ≤ t → t < 1073741824 → chip_before l.side t l.initial.chip (drop l.from l.trace) ≡ chip_before l.side t l.chip (drop l.at l.trace);
}

abbrev pub decreases-loop-at : goal.decreases-loop-at
decreases-loop-at l = length l.trace - l.at
