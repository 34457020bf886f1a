use Rattle.std.proofs.Common.{◌≡◌, ◌≤◌, ◌-◌, length, drop}
use Rattle.host_devices.specs.CodeBreaks.{break_tick}
use Rattle.host_devices.proofs.breaks.break_tick.Given as goal

abbrev pub invariant-loop-place : goal.invariant-loop-place
invariant-loop-place l = record {
  within : l.place ≤ length l.events;
  same : break_tick (drop l.place l.events) ≡ break_tick (drop l.from l.events);
}

abbrev pub decreases-loop-place : goal.decreases-loop-place
decreases-loop-place l = length l.events - l.place
