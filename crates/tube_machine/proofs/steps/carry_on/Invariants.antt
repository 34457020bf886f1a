use Rattle.std.proofs.Common.{◌-◌, ◌≡◌, ◌≤◌, ◌+◌, false, length}
use Rattle.op_table.specs.declared.names.Part.TheVariants.{Cmos}
use Rattle.tube_party.specs.Transitions.{shown_lines}
use Rattle.tube_machine.specs.Step.{at_of, transitions_of}
use Rattle.tube_machine.specs.Exchange.{spent, HasSpent, ready}
use Rattle.tube_machine.proofs.Ways.{Way}
use Rattle.tube_machine.proofs.steps.carry_on.Given as goal

-- the steps until here, and notes cost no more than a cycle each
abbrev pub invariant-loop-cpu : goal.invariant-loop-cpu
invariant-loop-cpu g l = record {
  went : Way (transitions_of g.P.Processor.part g.B.TubeBus.bus_model) g.D.TubePort.answers l.until.0 (shown_lines l.lines l.safe_until.0)
      (at_of (g.P.Processor.core l.initial.cpu) (g.B.TubeBus.state l.initial.bus) l.initial.due) (g.D.TubePort.state l.initial.port)
      (at_of (g.P.Processor.core l.cpu) (g.B.TubeBus.state l.bus) l.due) (g.D.TubePort.state l.port);
  before : g.B.TubeBus.bus_model.closed (g.B.TubeBus.state l.bus) ≤ l.due + 1;
  cycle : g.B.TubeBus.bus_model.cycle (g.B.TubeBus.state l.bus) ≡ g.B.TubeBus.bus_model.cycle (g.B.TubeBus.state l.initial.bus);
  noted : g.B.TubeBus.before l.notes l.bus ≡ g.B.TubeBus.before l.initial.notes l.initial.bus;
  spent : HasSpent ((g.P.Processor.part ≡ Cmos) × (g.B.TubeBus.endless ≡ false)) (g.B.TubeBus.bus_model.cycle (g.B.TubeBus.state l.initial.bus)) l.safe_until.0
      (spent (ready g.P.Processor.part (g.P.Processor.core l.initial.cpu) l.initial.due) (g.B.TubeBus.room l.initial.notes) (length (g.P.Processor.core l.initial.cpu).seen))
      (spent (ready g.P.Processor.part (g.P.Processor.core l.cpu) l.due) (g.B.TubeBus.room l.notes) (length (g.P.Processor.core l.cpu).seen));
}

abbrev pub decreases-loop-cpu : goal.decreases-loop-cpu
decreases-loop-cpu g l = l.until.0 - l.due
