-- One step of a machine at the Tube. An access to the bus is at the first tick of a cycle, and
-- takes that cycle, or as many ticks as the bus says. A look at the lines is at the last tick of
-- the last cycle of an instruction, of a reset or of an interrupt. If a break is pending, a break
-- step comes in place of the look, and at the last tick of a cycle in which the processor stays
-- halted. (Acorn, BBC Microcomputer Advanced User Guide, the 1 MHz bus and the BREAK key; 6502
-- Second Processor; the ticks, and what a break leaves, are this project's.)
use Rattle.std.specs.Prelude.{ℕ, ◌+◌, ◌-◌, ◌%◌, ◌==◌, ◌&&◌, ◌||◌, min, Bool, false, Option, Some, None, is_none, if◌then◌else◌}
use Rattle.op_table.specs.declared.names.Part.{Part}
use Rattle.cpu_alu.specs.declared.Cycle.{Cycle}
use Rattle.cpu_alu.specs.declared.Cycle.TheVariants.{Read, Write}
use Rattle.cpu_core.specs.State as cpu
use Rattle.cpu_core.specs.Sequences.{next_cycle, after_byte, halted, after, sequence_at_look, fresh}
use Rattle.cpu_core.specs.declared.Sequence.TheVariants.{Reset}
use Rattle.tube_chip.specs.declared.Lines.{Lines}
use Rattle.tube_chip.specs.declared.Op.TheVariants as op
use Rattle.tube_chip.specs.declared.Answer.{Answer}
use Rattle.tube_chip.specs.declared.Answer.TheVariants.{Byte, Seen}
use Rattle.tube_chip.specs.Act.{Query, access, look}
use Rattle.tube_party.specs.Transitions.{Transitions}
use Rattle.tube_machine.specs.BusModel.{BusModel}

-- A processor at its bus.
pub record At (B : Type 0) : Type 0 where
  pub cpu : cpu.State
  pub bus : B
  -- the tick of its next step
  pub due : ℕ

-- the machine of these parts
abbrev pub at_of : {B : Type 0} → cpu.State → B → ℕ → At B
at_of c b t = record { cpu = c; bus = b; due = t }

-- Cycle c begins at tick n c, if a cycle has n ticks: t is the last tick of one.
abbrev pub is_last_tick : ℕ → ℕ → Bool
is_last_tick n t = t % n == n - 1

-- the byte and the lines of an answer
abbrev pub byte_in : Option Answer → ℕ
byte_in None = 0
byte_in (Some (Byte b)) = b
byte_in (Some (Seen l)) = 0

abbrev pub lines_in : Option Answer → Lines
lines_in None = record { prst = false; resets = 0; nmis = 0; pirq = false; hirq = false }
lines_in (Some (Byte b)) = record { prst = false; resets = 0; nmis = 0; pirq = false; hirq = false }
lines_in (Some (Seen l)) = l

-- a sequence begins after a look or a break step, at this bus
abbrev pub begin_leaves : {B : Type 0} → At B → cpu.State → B → At B
begin_leaves s c b = record { cpu = c; bus = b; due = s.due + 1 }

module _ {B : Type 0} (w : BusModel B) where
  -- A break step asks for the reset operation, if there is a Tube.
  abbrev pub asks_reset : B → Option Query
  asks_reset b = if w.has_tube b then Some (access op.Reset) else None

  -- What any other step asks of the Tube: an access at an address of the Tube by its low three
  -- bits, if there is a Tube; and a look, if the sequence is over.
  abbrev pub asks_by : B → Option Cycle → Option Query
  asks_by b None = Some look
  asks_by b (Some (Read at)) = if w.has_tube b && w.is_tube at then Some (access (op.Read (at % 8))) else None
  asks_by b (Some (Write at byte)) = if w.has_tube b && w.is_tube at then Some (access (op.Write (at % 8) byte)) else None

  -- the byte that an access at tick t shows the processor
  abbrev pub byte_of : B → ℕ → Option Answer → Cycle → ℕ
  byte_of b t answer (Read at) = if w.has_tube b && w.is_tube at then byte_in answer else w.answer b t at
  byte_of b t answer (Write at byte) = 0

  abbrev pub closed_to : At B → ℕ → At B
  closed_to s t = record s { bus = w.close s.bus t }

module _ (part : Part) {B : Type 0} (w : BusModel B) where
  -- The step at the tick of a look, or at the last tick of a halted cycle, is a break step if a
  -- break is pending.
  abbrev pub is_break : At B → Bool
  is_break s = w.pending s.bus s.due && (is_none (next_cycle part s.cpu) || (halted part s.cpu && is_last_tick (w.cycle s.bus) s.due))

  abbrev pub asks : At B → Option Query
  asks s = if is_break s then asks_reset w s.bus else asks_by w s.bus (next_cycle part s.cpu)

  -- After an access of n ticks: the next step is at the last of them if a look or a break step ends
  -- it, and otherwise after them.
  abbrev pub after_cycle : At B → Bool → cpu.State → ℕ → At B
  after_cycle s breaks on n = record s { cpu = on; due = (if breaks || is_none (next_cycle part on) then s.due + (n - 1) else s.due + n) }

  -- An access. A processor that was halted before it has a break step at the end of the cycle, if a
  -- break is pending there.
  abbrev pub after_access : At B → Option Answer → Cycle → At B
  after_access s answer c =
      let byte : ℕ = byte_of w s.bus s.due answer c in
      let n : ℕ = w.takes s.bus s.due c in
      after_cycle (record s { bus = w.after s.bus c }) (w.pending s.bus (s.due + (n - 1)) && halted part s.cpu) (after_byte part s.cpu byte) n

  -- held: a cycle without an access, which looks again at its last tick
  abbrev pub after_held_cycle : At B → At B
  after_held_cycle s = record s { bus = w.held s.bus; due = s.due + w.cycle s.bus }

  -- A look: a reset, for which the processor is held while its line is on; otherwise an NMI, an IRQ
  -- if the flag I is clear, or the next instruction.
  abbrev pub after_look : At B → Lines → At B
  after_look s l =
      if w.resets s.bus l then
      (if l.prst then after_held_cycle s else begin_leaves s (fresh Reset (after part s.cpu)) (w.reset s.bus l))
      else begin_leaves s (fresh (sequence_at_look (w.nmi s.bus l) (w.irq s.bus l) (after part s.cpu)) (after part s.cpu)) (w.taken s.bus l)

  -- A break step: the bus takes every pending break, and a reset begins, with the registers after
  -- the sequence that is over, or with those at the start of the opcode that halted the processor.
  abbrev pub after_break : At B → At B
  after_break s = begin_leaves s (fresh Reset (after part s.cpu)) (w.broken s.bus s.due)

  -- any step but a break step
  abbrev pub after_step : Option Cycle → At B → Option Answer → At B
  after_step None s answer = after_look s (lines_in answer)
  after_step (Some c) s answer = after_access s answer c

  -- Each step, at tick t, first closes the devices at t + 1.
  abbrev pub next_state : At B → Option Answer → At B
  next_state s answer =
      let closed : At B = closed_to w s (s.due + 1) in
      if is_break s then after_break closed else after_step (next_cycle part s.cpu) closed answer

  -- The steps of the machine. No state counts as closed past its next step.
  abbrev pub transitions_of : Transitions (At B)
  transitions_of = record {
    due = λ s. s.due;
    asks = asks;
    next = next_state;
    closed = λ s. min s.due (w.closed s.bus);
    close = closed_to w;
  }
