-- When the timers of the 6522 set their flags, over runs of steps with any pins. (6522 data sheet,
-- Timer 1 Operation and Timer 2 Operation.)
use Rattle.std.specs.Prelude.{ℕ, ◌+◌, ◌%◌, ◌==◌, ◌≡◌, ◌<◌, Bool, true, false, List, length}
use Rattle.beeb_bits.specs.Bits.{bit}
use Rattle.via6522.specs.declared.Pins.{Pins}
use Rattle.via6522.specs.State.{State, InterruptFlags}
use Rattle.via6522.specs.Timers.{word}
use Rattle.via6522.specs.Registers.{write_leaves}
use Rattle.via6522.specs.Step.{step, after_steps}

abbrev pub with_flags : InterruptFlags → State → State
with_flags flags c = record c { flags = flags }

-- A step with the pins p sets timer 1's flag: the flag is set after the step if it is clear before.
abbrev pub sets_timer1_flag : Pins → State → Bool
sets_timer1_flag p c = (step p (with_flags (record c.flags { timer1 = false }) c)).flags.timer1

-- a step with the pins p sets timer 2's flag
abbrev pub sets_timer2_flag : Pins → State → Bool
sets_timer2_flag p c = (step p (with_flags (record c.flags { timer2 = false }) c)).flags.timer2

-- Timer 1 is in free-running mode if ACR bit 6 is set. After a write of v, it sets its flag in each
-- step whose number is a multiple of v + 2, and in no other. Steps count from 1, and `pins` has the
-- pins of the steps before.
abbrev pub Timer1RunsFree : Type 0
Timer1RunsFree =
    (c : State) (high : ℕ) (pins : List Pins) (p : Pins) → high < 256 → c.timer1.latch_low < 256 → bit c.acr 6 ≡ true →
    sets_timer1_flag p (after_steps pins (write_leaves 5 high c)) ≡ ((length pins + 1) % (word high c.timer1.latch_low + 2) == 0)

-- In one-shot mode, if ACR bit 6 is clear, it sets its flag once, in step v + 2.
abbrev pub Timer1FiresOnce : Type 0
Timer1FiresOnce =
    (c : State) (high : ℕ) (pins : List Pins) (p : Pins) → high < 256 → c.timer1.latch_low < 256 → bit c.acr 6 ≡ false →
    sets_timer1_flag p (after_steps pins (write_leaves 5 high c)) ≡ (length pins + 1 == word high c.timer1.latch_low + 2)

-- Timer 2 counts if ACR bit 5 is clear. After v is written to it, it sets its flag once. It counts
-- from the second step on: step v + 1 makes the counter 0000, and step v + 2 makes it FFFF.
abbrev pub Timer2FiresOnce : Type 0
Timer2FiresOnce =
    (c : State) (high : ℕ) (pins : List Pins) (p : Pins) → high < 256 → c.timer2.latch_low < 256 → bit c.acr 5 ≡ false →
    sets_timer2_flag p (after_steps pins (write_leaves 9 high c)) ≡ (length pins + 1 == word high c.timer2.latch_low + 2)
