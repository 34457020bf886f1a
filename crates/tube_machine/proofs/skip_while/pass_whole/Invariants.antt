use Rattle.std.proofs.Common.{◌≡◌, ◌≤◌, ◌-◌, ◌+◌, ℕ}
use Rattle.cpu_alu.specs.declared.flags.TheConstants.{INTERRUPT}
use Rattle.cpu_alu.specs.Flags.{has_flag}
use Rattle.cpu_core.specs.declared.Sequence.TheVariants.{Instruction}
use Rattle.cpu_core.specs.Sequences.{fresh}
use Rattle.tube_party.specs.Transitions.{shown_lines}
use Rattle.tube_machine.specs.Step.{at_of, transitions_of}
use Rattle.tube_machine.specs.SkipWhile.{Passes, skipped_at}
use Rattle.tube_machine.proofs.InProgress.{IsInProgress}
use Rattle.tube_machine.proofs.skip_while.pass_whole.Given as goal

-- an instruction begins, and all starts until here were skipped
abbrev pub invariant-loop-due : goal.invariant-loop-due
invariant-loop-due g l = record {
  way : IsInProgress g.P.Processor.part g.B.TubeBus.bus_model g.B.TubeBus.plain l.bound l.cycle l.bound l.lines l.bound
      (at_of (g.P.Processor.core l.fn.cpu) (g.B.TubeBus.state l.fn.bus) l.from)
      (at_of (fresh Instruction l.regs) (g.B.TubeBus.state l.bus) l.due)
      l.due;
  passes : (until safe_until : ℕ) → l.bound ≤ until → l.bound ≤ safe_until
      → (k : ℕ) × Passes (transitions_of g.P.Processor.part g.B.TubeBus.bus_model) (skipped_at g.B.TubeBus.peek l.skip) until (shown_lines l.lines safe_until) k
      (at_of (g.P.Processor.core l.fn.cpu) (g.B.TubeBus.state l.fn.bus) l.from)
      (at_of (fresh Instruction l.regs) (g.B.TubeBus.state l.bus) l.due);
  before : (g.B.TubeBus.bus_model).closed (g.B.TubeBus.state l.bus) ≤ l.due + 1;
  rests : g.B.TubeBus.rests (g.B.TubeBus.state l.bus) l.lines (has_flag (g.P.Processor.core l.fn.cpu).regs.p INTERRUPT) l.quiet;
  held : has_flag l.regs.p INTERRUPT ≡ has_flag (g.P.Processor.core l.fn.cpu).regs.p INTERRUPT;
  high : l.due ≤ l.bound;
  noted : g.B.TubeBus.before l.notes l.bus ≡ g.B.TubeBus.before l.fn.notes l.fn.bus;
}

abbrev pub decreases-loop-due : goal.decreases-loop-due
decreases-loop-due g l = l.end - l.due
