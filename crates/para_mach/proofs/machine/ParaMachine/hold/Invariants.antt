use Rattle.std.proofs.Common.{◌-◌}
use Rattle.tube_machine.specs.Step.{at_of}
use Rattle.para_mach.proofs.Held.{IsHeldOn}
use Rattle.para_mach.proofs.machine.ParaMachine.hold.Given as goal

abbrev pub invariant-loop-self : goal.invariant-loop-self
invariant-loop-self l = IsHeldOn l.until.0 l.lines l.fn.safe_until.0 l.fn.self (at_of l.self-inside.cpu l.self-inside.bus l.self-inside.due)

abbrev pub decreases-loop-self : goal.decreases-loop-self
decreases-loop-self l = l.bound - l.self-inside.due
