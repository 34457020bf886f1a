use Rattle.std.proofs.Common.{◌≡◌, ◌+◌, length, drop}
use Rattle.key_script.specs.Events.{shots}
use Rattle.host_devices.proofs.shots.black_frames.Given as goal

abbrev pub invariant-loop-event : goal.invariant-loop-event
invariant-loop-event l = length l.frames.items + shots (drop l.event-index l.events) ≡ shots l.events
