use Rattle.std.proofs.Common.{◌≡◌, ◌++◌, map, drop}
use Rattle.cmd_stages.specs.View.{seen_input}
use Rattle.cmd_machines.specs.Sessions.{there}
use Rattle.cmd_machines.proofs.sessions.there.Given as goal

abbrev pub invariant-loop-part : goal.invariant-loop-part
invariant-loop-part l =
    map seen_input l.list.items ++ there (drop l.place l.slots) l.part-iterator.rest.items ≡ there l.slots l.fn.parts.items
