use Rattle.std.proofs.Common.{◌-◌, ◌≡◌, length}
use Rattle.op_table.specs.declared.names.Part.TheVariants.{Cmos}
use Rattle.tube_machine.specs.Step.{at_of}
use Rattle.tube_machine.specs.Exchange.{spent}
use Rattle.tube_machine.proofs.Ways.{IsPortRun}
use Rattle.tube_machine.specs.Exchange.{HasSpent, ready}
use Rattle.tube_machine.proofs.run.go_quick.Given as goal

-- the steps until here asked nothing or saw the lines, and the next one is an access
abbrev pub invariant-loop-due : goal.invariant-loop-due
invariant-loop-due g l = record {
  at : IsPortRun g.P.Processor.part g.B.TubeBus.bus_model g.B.TubeBus.plain g.D.TubePort.answers l.next_break l.cycle l.until l.lines l.safe_until
      (at_of (g.P.Processor.core l.fn.cpu) (g.B.TubeBus.state l.fn.bus) l.from) (g.D.TubePort.state l.fn.port)
      (at_of (g.P.Processor.core l.cpu) (g.B.TubeBus.state l.bus) l.due) (g.D.TubePort.state l.port)
      l.caught_up;
  noted : g.B.TubeBus.before l.notes l.bus ≡ g.B.TubeBus.before l.fn.notes l.fn.bus;
  spent : HasSpent (g.P.Processor.part ≡ Cmos) l.cycle l.safe_until (spent (ready g.P.Processor.part (g.P.Processor.core l.fn.cpu) l.from)
      (g.B.TubeBus.room l.fn.notes) (length (g.P.Processor.core l.fn.cpu).seen))
      (spent l.due (g.B.TubeBus.room l.notes) (length (g.P.Processor.core l.cpu).seen));
}

abbrev pub decreases-loop-due : goal.decreases-loop-due
decreases-loop-due g l = l.end - l.due
