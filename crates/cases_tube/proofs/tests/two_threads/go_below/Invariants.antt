use Rattle.std.proofs.Common.{ℕ, ◌-◌}
use Rattle.tube_party.specs.Transitions.{PortRun, shown_lines}
use Rattle.cases_tube.proofs.tests.two_threads.go_below.Given as goal

-- accesses were answered, and each other step asked nothing, or was a safe look
abbrev pub invariant-loop-tick : goal.invariant-loop-tick
invariant-loop-tick g l = (j : ℕ) × PortRun g.M.Party.transitions g.D.TubePort.answers l.until.0 (shown_lines l.lines l.fn.safe_until.0) j
    (g.M.Party.state l.fn.machine) (g.D.TubePort.state l.fn.port) (g.M.Party.state l.machine) (g.D.TubePort.state l.port)

abbrev pub decreases-loop-tick : goal.decreases-loop-tick
decreases-loop-tick g l = l.until.0 - g.M.Party.transitions.due (g.M.Party.state l.machine)
