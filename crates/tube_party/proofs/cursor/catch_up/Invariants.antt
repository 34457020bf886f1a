use Rattle.std.proofs.Common.{length, ◌-◌, ◌≡◌, ◌≤◌, ℕ, drop}
use Rattle.tube_party.specs.Replay.{chip_before}
use Rattle.tube_party.proofs.cursor.catch_up.Given as goal

-- the entries done come before each look from this tick on
abbrev pub invariant-loop-at : goal.invariant-loop-at
invariant-loop-at l = record {
  within : l.at ≤ length l.trace;
  later : (t : ℕ) → l.tick.0 ≤ t → chip_before l.side t l.initial.chip (drop l.seen l.trace) ≡ chip_before l.side t l.chip (drop l.at l.trace);
}

abbrev pub decreases-loop-at : goal.decreases-loop-at
decreases-loop-at l = length l.trace - l.at
