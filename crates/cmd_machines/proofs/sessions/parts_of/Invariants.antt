use Rattle.std.proofs.Common.{◌≡◌, ◌++◌, map, drop}
use Rattle.cmd_machines.specs.Sessions.{part_slots, part_of}
use Rattle.cmd_machines.specs.View.{seen_inputs}
use Rattle.cmd_machines.proofs.sessions.parts_of.Given as goal

abbrev pub invariant-loop-slot : goal.invariant-loop-slot
invariant-loop-slot l =
    l.parts.items ++ map (part_of (seen_inputs l.inputs)) (drop l.slot-index l.slot-items) ≡ map (part_of (seen_inputs l.inputs)) part_slots
