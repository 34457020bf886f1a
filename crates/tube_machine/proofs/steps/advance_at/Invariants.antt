use Rattle.std.proofs.Common.{◌-◌, ◌≤◌, ◌+◌}
use Rattle.tube_party.specs.Transitions.{shown_lines}
use Rattle.tube_machine.specs.Step.{at_of, transitions_of}
use Rattle.tube_machine.proofs.Ways.{Way}
use Rattle.tube_machine.proofs.steps.advance_at.Given as goal

-- the steps until here asked nothing or saw the lines
abbrev pub invariant-loop-ask : goal.invariant-loop-ask
invariant-loop-ask g l = record {
  went : Way (transitions_of g.P.Processor.part g.B.TubeBus.bus_model) g.D.TubePort.answers l.until.0 (shown_lines l.lines l.safe_until.0)
      (at_of (g.P.Processor.core l.initial.cpu) (g.B.TubeBus.state l.initial.bus) l.initial.due) (g.D.TubePort.state l.initial.port)
      (at_of (g.P.Processor.core l.cpu) (g.B.TubeBus.state l.bus) l.due) (g.D.TubePort.state l.port);
  before : g.B.TubeBus.bus_model.closed (g.B.TubeBus.state l.bus) ≤ l.due + 1;
}

abbrev pub decreases-loop-ask : goal.decreases-loop-ask
decreases-loop-ask g l = l.until.0 - l.due
