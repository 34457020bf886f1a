use Rattle.std.proofs.Common.{◌≡◌, map}
use Rattle.cmd_stages.specs.View.{seen_input}
use Rattle.cmd_machines.specs.Inputs.{with_inputs, inputs_of}
use Rattle.cmd_machines.specs.View.{seen_inputs}
use Rattle.cmd_machines.proofs.inputs.Inputs.of.Given as goal

abbrev pub invariant-loop-slot : goal.invariant-loop-slot
invariant-loop-slot l = inputs_of (map seen_input l.fn.list.items) ≡ with_inputs (map seen_input l.slot-iterator.rest.items) (seen_inputs l.inputs)
