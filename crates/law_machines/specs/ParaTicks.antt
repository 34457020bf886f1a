-- The duration of a sequence of the second processor: an instruction, a reset, an NMI or an IRQ,
-- from its first access to the look after its last one. (MCS6500 Hardware Manual, summary of single
-- cycle execution, and the 65C02's data sheet.)
use Rattle.std.specs.Prelude.{ℕ, ◌+◌, ◌*◌, ◌≡◌, ◌<◌, false, List, [], ◌∷◌, ◌++◌, length, Option, Some, None, is_none}
use Rattle.beeb_bits.specs.Clock.{para}
use Rattle.op_table.specs.declared.names.Part.TheVariants.{Cmos}
use Rattle.op_table.specs.declared.rows.Row.{Row}
use Rattle.cpu_alu.specs.declared.Cycle.{Cycle}
use Rattle.cpu_core.specs.declared.Sequence.TheVariants.{Instruction}
use Rattle.cpu_core.specs.Accesses.{row_at}
use Rattle.cpu65c02.specs.Sequences.{next_cycle}
use Rattle.tube_chip.specs.declared.Answer.{Answer}
use Rattle.para_mach.specs.State.{ParaState}
use Rattle.para_mach.specs.Step.{next_state}
use Rattle.law_machines.specs.Cycles.{the_cycle}
use Rattle.law_machines.specs.Further.{further}

-- steps one after the other, each with the Tube's answer, if it was asked
abbrev pub run : List (Option Answer) → ParaState → ParaState
run [] s = s
run (a ∷ answers) s = run answers (next_state s a)

-- the accesses of those steps
abbrev pub cycles : List (Option Answer) → ParaState → List Cycle
cycles [] s = []
cycles (a ∷ answers) s = the_cycle (next_cycle s.cpu) ++ cycles answers (next_state s a)

-- Each of the steps is an access, and not a look.
abbrev pub AllAccess : List (Option Answer) → ParaState → Type 0
AllAccess [] s = Unit {0}
AllAccess (a ∷ answers) s = (is_none (next_cycle s.cpu) ≡ false) × AllAccess answers (next_state s a)

-- From any access on, let the accesses up to the end of its sequence be done. They take two ticks
-- each at 3 MHz and three at 4 MHz. The look is at the last of these ticks. If the processor is not
-- held, the next sequence begins after the look.
pub record ParaTakes : Type 0 where
  pub look : (s : ParaState) (answers : List (Option Answer)) → 0 < length answers → AllAccess answers s → next_cycle (run answers s).cpu ≡ None →
      (run answers s).due + 1 ≡ s.due + para s.bus.clock * length (cycles answers s)
  pub behind : (s : ParaState) (answers : List (Option Answer)) (answer : Option Answer) →
      0 < length answers → AllAccess answers s → next_cycle (run answers s).cpu ≡ None →
      (next_state (run answers s) answer).bus.is_held ≡ false →
      (next_state (run answers s) answer).due ≡ s.due + para s.bus.clock * length (cycles answers s)

-- The number of accesses of an instruction that is over is exactly the number of cycles that the
-- instruction table has for its opcode, and its further ones. The opcode is the first byte that the
-- processor read.
abbrev pub ParaTakesTheTable : Type 0
ParaTakesTheTable =
    (s : ParaState) (answers : List (Option Answer)) (op : ℕ) (seen : List (Option ℕ)) (row : Row) →
    s.cpu.sequence ≡ Instruction → s.cpu.seen ≡ [] → AllAccess answers s → next_cycle (run answers s).cpu ≡ None →
    (run answers s).cpu.seen ≡ Some op ∷ seen → op < 256 → row_at Cmos op ≡ Some row →
    length (cycles answers s) ≡ row.cycles + further Cmos op s.cpu.regs (Some op ∷ seen)
