use Rattle.std.proofs.Common.{◌≡◌, ◌≤◌, ◌-◌, ◌+◌, ◌<◌, ℕ}
use Rattle.op_table.specs.declared.names.Part.TheVariants.{Cmos}
use Rattle.cpu_alu.specs.declared.flags.TheConstants.{INTERRUPT}
use Rattle.cpu_alu.specs.Flags.{has_flag}
use Rattle.cpu_core.specs.declared.Sequence.TheVariants.{Instruction}
use Rattle.cpu_core.specs.Sequences.{fresh}
use Rattle.tube_machine.specs.Step.{at_of}
use Rattle.tube_machine.specs.Exchange.{behind, spent, HasSpent}
use Rattle.tube_machine.specs.Whole.{IsResting}
use Rattle.tube_machine.proofs.InProgress.{IsInProgress, IsFree}
use Rattle.tube_machine.proofs.run.go_whole.Given as goal

-- an instruction begins, and all until here asked for nothing; the devices need not be closed yet
-- as far as they count
abbrev pub invariant-loop-due : goal.invariant-loop-due
invariant-loop-due g l = record {
  way : (far until safe_until : ℕ) → l.end ≤ far → l.end ≤ until → l.end ≤ safe_until
      → IsFree g.P.Processor.part g.B.TubeBus.bus_model far (g.B.TubeBus.state l.fn.bus)
      → IsInProgress g.P.Processor.part g.B.TubeBus.bus_model g.B.TubeBus.plain far l.cycle until l.lines safe_until
      (at_of (fresh Instruction l.fn.at) (g.B.TubeBus.state l.fn.bus) l.from)
      (at_of (fresh Instruction l.regs) ((g.B.TubeBus.bus_model).close (g.B.TubeBus.state l.bus) (behind l.from l.due)) l.due)
      l.due;
  before : (g.B.TubeBus.bus_model).closed (g.B.TubeBus.state l.bus) ≤ l.due + 1;
  shut : l.from < l.due → (g.B.TubeBus.bus_model).closed (g.B.TubeBus.state l.bus) ≤ l.due;
  rests : IsResting g.B.TubeBus.rests ((g.B.TubeBus.bus_model).close (g.B.TubeBus.state l.bus) (behind l.from l.due)) l.lines (l.fn.at).p l.end;
  held : has_flag l.regs.p INTERRUPT ≡ has_flag (l.fn.at).p INTERRUPT;
  low : l.from ≤ l.due;
  high : l.due ≤ l.end;
  noted : g.B.TubeBus.before l.notes l.bus ≡ g.B.TubeBus.before l.fn.notes l.fn.bus;
  spent : (safe_until : ℕ) → l.end ≤ safe_until
      → HasSpent (g.P.Processor.part ≡ Cmos) l.cycle safe_until (spent l.from (g.B.TubeBus.room l.fn.notes) 0) (spent l.due (g.B.TubeBus.room l.notes) 0);
}

abbrev pub decreases-loop-due : goal.decreases-loop-due
decreases-loop-due g l = l.end - l.due
