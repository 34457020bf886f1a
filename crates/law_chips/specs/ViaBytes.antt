-- The latches of the 6522's timers over whole runs. (6522 data sheet, Timer 1 Operation and Timer 2
-- Operation.)
use Rattle.std.specs.Prelude.{ℕ, ◌<◌, ⊤, List, [], ◌∷◌}
use Rattle.via6522.specs.declared.Pins.{Pins}
use Rattle.via6522.specs.State.{State, power_on}
use Rattle.via6522.specs.Registers.{read_leaves, write_leaves}
use Rattle.via6522.specs.Step.{step}

-- An event of a 6522: a microsecond with the given pins, or a read or write of a register.
pub data Move : Type 0 where
  microsecond : (pins : Pins) → Move
  read : (reg : ℕ) → Move
  write : (reg v : ℕ) → Move

abbrev pub after_move : Move → State → State
after_move (microsecond pins) c = step pins c
after_move (read reg) c = read_leaves reg c
after_move (write reg v) c = write_leaves reg v c

-- the chip after moves, one after the other
abbrev pub after_moves : List Move → State → State
after_moves [] c = c
after_moves (m ∷ moves) c = after_moves moves (after_move m c)

-- A written value is a byte.
abbrev pub WritesByte : Move → Type 0
WritesByte (microsecond pins) = ⊤
WritesByte (read reg) = ⊤
WritesByte (write reg v) = v < 256

abbrev pub WriteBytes : List Move → Type 0
WriteBytes [] = ⊤
WriteBytes (m ∷ moves) = WritesByte m × WriteBytes moves

-- the low latches are bytes
pub record HasByteLatches (c : State) : Type 0 where
  pub timer1 : c.timer1.latch_low < 256
  pub timer2 : c.timer2.latch_low < 256

-- The low latches are bytes at power-on and after each run from it. Each move keeps this, from any
-- chip on. The laws of the timers need this.
pub record LatchesAreBytes : Type 0 where
  pub keeps : (m : Move) (c : State) → WritesByte m → HasByteLatches c → HasByteLatches (after_move m c)
  pub reached : (moves : List Move) → WriteBytes moves → HasByteLatches (after_moves moves power_on)
