use Rattle.std.proofs.Common.{ℕ, ◌-◌}
use Rattle.tube_party.specs.Transitions.{PortRun, shown_lines}
use Rattle.tube_party.proofs.party.Party.advance_at.Given as goal

-- until here the port answered accesses, and each other step asked nothing, or was a safe look
abbrev pub invariant-loop-tick : goal.invariant-loop-tick
invariant-loop-tick g l = (j : ℕ) × PortRun g.Self.Party.transitions g.D.TubePort.answers l.until.0 (shown_lines l.lines l.safe_until.0) j
    (g.Self.Party.state l.fn.self) (g.D.TubePort.state l.fn.port) (g.Self.Party.state l.self) (g.D.TubePort.state l.port)

abbrev pub decreases-loop-tick : goal.decreases-loop-tick
decreases-loop-tick g l = l.until.0 - g.Self.Party.transitions.due (g.Self.Party.state l.self)
