use Rattle.std.proofs.Common.{◌≡◌, take}
use Rattle.key_script.specs.Keys.{is_down}
use Rattle.key_script.proofs.script.is_down.Given as goal

abbrev pub invariant-loop-event : goal.invariant-loop-event
invariant-loop-event l = l.down ≡ is_down l.key (l.t).0 (take l.event-index l.events)
