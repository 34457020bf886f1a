-- Whole instructions at a bus: which of their accesses are of plain memory, and what the looks
-- after them find.
use Rattle.std.specs.Prelude.{ℕ, suc, ◌≡◌, ◌≤◌, ◌<◌, ◌+◌, ◌*◌, ◌&&◌, max, Bool, true, false, not, IsSome}
use Rattle.std.proofs.Common.{arith}
use Rattle.op_table.specs.declared.names.Part.{Part}
use Rattle.cpu_alu.specs.declared.Cycle.{Cycle}
use Rattle.cpu_alu.specs.declared.Cycle.TheVariants.{Read, Write}
use Rattle.cpu_core.specs.Sequences.{next_cycle}
use Rattle.cpu_alu.specs.declared.flags.TheConstants.{INTERRUPT}
use Rattle.cpu_alu.specs.Flags.{has_flag}
use Rattle.cpu_whole.specs.Whole.{Reach, IsPlain}
use Rattle.tube_chip.specs.declared.Lines.{Lines}
use Rattle.tube_chip.specs.declared.Op.{Op}
use Rattle.tube_party.specs.Transitions.{Looks, PortRun, shown_lines}
use Rattle.tube_machine.specs.BusModel.{BusModel}
use Rattle.tube_machine.specs.Step.{At, transitions_of}
use Rattle.tube_machine.specs.Exchange.{IsAtTube}

-- The memory of a bus, by the addresses that are plain for reads and for writes. A read yields at
-- each tick what it yields at tick 0. The cycles of an instruction follow one another, and a write
-- closes the devices before it.
abbrev pub reach_of : {B : Type 0} → BusModel B → (ℕ → Bool) → (ℕ → Bool) → Reach B
reach_of w reads writes = record {
  reads = reads;
  writes = writes;
  byte = λ b at. w.answer b 0 at;
  put = λ b t n at byte. w.after (w.close b (t + w.cycle b * n + 1)) (Write at byte);
}

-- An instruction's cycles begin one after another, and each closes the bus no further than one tick
-- after its beginning.
pub later : (c t n : ℕ) → t + c * n + 1 ≤ t + c * suc n + 1
later c t n = grind arith

pub comes_later : (closed c t n k : ℕ) → closed ≤ t + max 1 (c * n) → n ≤ k → closed ≤ t + max 1 (c * k)
comes_later closed c t n k low high = grind arith

-- What holds of plain memory: an access there is not the Tube's and takes one cycle. A read does
-- not change the bus and yields one byte at all ticks, however far the devices are closed.
pub record IsMemory {B : Type 0} (w : BusModel B) (reads writes : ℕ → Bool) : Type 0 where
  pub plain : IsPlain (reach_of w reads writes)
  pub read_apart : (at : ℕ) → reads at ≡ true → w.is_tube at ≡ false
  pub read_leaves : (b : B) (at : ℕ) → reads at ≡ true → w.after b (Read at) ≡ b
  pub read_ticks : (b : B) (t at : ℕ) → reads at ≡ true → w.takes b t (Read at) ≡ w.cycle b
  pub shows : (b : B) (t u at : ℕ) → reads at ≡ true → w.answer (w.close b u) t at ≡ w.answer b 0 at
  pub write_apart : (at : ℕ) → writes at ≡ true → w.is_tube at ≡ false
  pub write_ticks : (b : B) (t at byte : ℕ) → writes at ≡ true → w.takes b t (Write at byte) ≡ w.cycle b
  pub write_closed : (b : B) (at byte : ℕ) → writes at ≡ true → w.closed (w.after b (Write at byte)) ≡ w.closed b

-- A look that sees these lines, with the flag I as `masks`, asks for no interrupt and does not
-- change the bus.
pub record IsAtRest {B : Type 0} (w : BusModel B) (b : B) (lines : Lines) (masks : Bool) : Type 0 where
  pub nmi : w.nmi b lines ≡ false
  pub irq : (w.irq b lines && not masks) ≡ false
  pub taken : w.taken b lines ≡ b

-- Looks below a tick that see these lines are such looks. Closing the bus up to that tick, writes
-- to plain memory and accesses of the Tube do not change that.
pub record StaysAtRest {B : Type 0} (w : BusModel B) (writes : ℕ → Bool) (rests : B → Lines → Bool → ℕ → Type 0) : Type 0 where
  pub looks : (b : B) (lines : Lines) (masks : Bool) (far t : ℕ) → rests b lines masks far → t < far → IsAtRest w (w.close b (t + 1)) lines masks
  pub close : (b : B) (lines : Lines) (masks : Bool) (far t : ℕ) → rests b lines masks far → t ≤ far → rests (w.close b t) lines masks far
  pub write : (b : B) (lines : Lines) (masks : Bool) (far at byte : ℕ) → rests b lines masks far → writes at ≡ true → rests (w.after b (Write at byte)) lines masks far
  pub tube : (b : B) (lines : Lines) (masks : Bool) (far : ℕ) (c : Cycle) → rests b lines masks far → IsAtTube w b c → rests (w.after b c) lines masks far

-- What some steps up to an access leave: cycles, breaks and plain looks are as before.
pub record GoesOnAlike (part : Part) {B : Type 0} (w : BusModel B) (plain : B → Lines → Bool) (lines : Lines) (bound : ℕ) (old new : At B) : Type 0 where
  pub goes_on : IsSome (next_cycle part new.cpu)
  pub closed : w.closed new.bus ≤ new.due + 1
  pub cycle : w.cycle old.bus ≡ w.cycle new.bus
  pub free : (far : ℕ) → bound ≤ far → ((t : ℕ) → t < far → w.pending old.bus t ≡ false) → (t : ℕ) → t < far → w.pending new.bus t ≡ false
  pub is_plain : plain new.bus lines ≡ true

-- Steps from one machine to another: each asks nothing, or is a look that sees the lines, and all
-- are below tick `bound`.
pub record IsOnward (part : Part) {B : Type 0} (w : BusModel B) (plain : B → Lines → Bool) (lines : Lines) (bound : ℕ) (old new : At B) : Type 0 where
  pub looks : (until safe_until : ℕ) → bound ≤ until → bound ≤ safe_until → (k : ℕ) × Looks (transitions_of part w) until (shown_lines lines safe_until) k old new
  pub alike : GoesOnAlike part w plain lines bound old new

-- As `IsOnward`, and with accesses that the port answers. The port goes from d to e.
pub record IsServed (part : Part) {B D : Type 0} (w : BusModel B) (plain : B → Lines → Bool) (answers : D → ℕ → Op → ℕ → D → Type 0) (lines : Lines) (bound : ℕ)
    (old : At B) (d : D) (new : At B) (e : D) : Type 0 where
  pub port_run : (until safe_until : ℕ) → bound ≤ until → bound ≤ safe_until → (j : ℕ) × PortRun (transitions_of part w) answers until (shown_lines lines safe_until) j old d new e
  pub alike : GoesOnAlike part w plain lines bound old new

-- Looks that see these lines, with the flag I of `p`, ask for nothing and do not change the bus, at
-- least up to tick `end`.
abbrev pub IsResting : {B : Type 0} → (B → Lines → Bool → ℕ → Type 0) → B → Lines → ℕ → ℕ → Type 0
IsResting rests b lines p end = (quiet : ℕ) × ((end ≤ quiet) × rests b lines (has_flag p INTERRUPT) quiet)
