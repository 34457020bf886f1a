use Rattle.std.proofs.Common.{◌≡◌, ◌≤◌, ◌-◌, ℕ, length}
use Rattle.op_table.specs.declared.names.Part.TheVariants.{Cmos}
use Rattle.cpu_core.specs.declared.Sequence.TheVariants.{Instruction}
use Rattle.cpu_core.specs.Sequences.{fresh}
use Rattle.tube_machine.specs.Step.{at_of}
use Rattle.tube_machine.specs.Exchange.{spent, HasSpent}
use Rattle.tube_machine.specs.Whole.{IsServed, IsResting}
use Rattle.tube_machine.proofs.run.serve.Given as goal

-- whole instructions and answered accesses until here
abbrev pub invariant-loop-due : goal.invariant-loop-due
invariant-loop-due g l = record {
  served : IsServed g.P.Processor.part g.B.TubeBus.bus_model g.B.TubeBus.plain g.D.TubePort.answers l.lines l.end
      (at_of (g.P.Processor.core l.fn.cpu) (g.B.TubeBus.state l.fn.bus) l.from) (g.D.TubePort.state l.fn.port)
      (at_of (fresh Instruction l.at) (g.B.TubeBus.state l.bus) l.due) (g.D.TubePort.state l.port);
  rests : IsResting g.B.TubeBus.rests (g.B.TubeBus.state l.bus) l.lines (l.at).p l.end;
  low : l.from ≤ l.due;
  high : l.due ≤ l.end;
  noted : g.B.TubeBus.before l.notes l.bus ≡ g.B.TubeBus.before l.fn.notes l.fn.bus;
  spent : (safe_until : ℕ) → l.end ≤ safe_until → HasSpent (g.P.Processor.part ≡ Cmos) (g.B.TubeBus.bus_model.cycle (g.B.TubeBus.state l.fn.bus)) safe_until
      (spent l.from (g.B.TubeBus.room l.fn.notes) (length (g.P.Processor.core l.fn.cpu).seen))
      (spent l.due (g.B.TubeBus.room l.notes) 0);
}

abbrev pub decreases-loop-due : goal.decreases-loop-due
decreases-loop-due g l = l.end - l.due
