use Rattle.std.proofs.Common.{ℕ, ◌-◌}
use Rattle.tube_party.specs.Transitions.{Looks, shown_lines}
use Rattle.tube_party.proofs.party.Party.advance_seeing.Given as goal

-- each step until here asked nothing, or was a safe look
abbrev pub invariant-loop-tick : goal.invariant-loop-tick
invariant-loop-tick g l = (k : ℕ) × Looks g.Self.Party.transitions l.until.0 (shown_lines l.lines l.safe_until.0) k (g.Self.Party.state l.fn.self) (g.Self.Party.state l.self)

abbrev pub decreases-loop-tick : goal.decreases-loop-tick
decreases-loop-tick g l = l.until.0 - g.Self.Party.transitions.due (g.Self.Party.state l.self)
