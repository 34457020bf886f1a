use Rattle.std.proofs.Common.{◌≡◌, ◌≤◌, ◌-◌, length, take, count_by}
use Rattle.host_devices.specs.Breaks.{is_break_by}
use Rattle.host_devices.specs.CodeBreaks.{breaks_before}
use Rattle.host_devices.proofs.breaks.place_behind.Given as goal

-- All breaks before the place are up to t.
abbrev pub invariant-loop-place : goal.invariant-loop-place
invariant-loop-place l = record {
  within : l.place ≤ length l.events;
  come : count_by (is_break_by l.t) (take l.place l.events) ≡ breaks_before l.place l.events;
}

abbrev pub decreases-loop-place : goal.decreases-loop-place
decreases-loop-place l = length l.events - l.place
