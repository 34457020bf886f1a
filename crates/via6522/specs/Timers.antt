-- The two timers of the 6522: the effect of a step and of a write on each. (6522 data sheet, Timer
-- 1 Operation and Timer 2 Operation.)
use Rattle.std.specs.Prelude.{ℕ, ◌+◌, ◌*◌, ◌%◌, ◌==◌, ◌&&◌, ◌||◌, Bool, true, false, not, if◌then◌else◌}
use Rattle.via6522.specs.State.{Timer1, Timer2}

-- the 16-bit number of two bytes
abbrev pub word : ℕ → ℕ → ℕ
word high low = 256 * high + low

-- one less; FFFF after 0000
abbrev pub one_less : ℕ → ℕ
one_less counter = (counter + 65535) % 65536

-- the counter becomes FFFF if it counts
abbrev pub runs_out : ℕ → Bool
runs_out counter = one_less counter == 65535

-- One step of timer 1, which is free-running if ACR bit 6 is set. If a reload is due, the counter
-- becomes the latch. Otherwise it goes down by one. At an underflow, a free-running timer makes a
-- reload due; in one-shot mode `armed` is cleared instead. (That one-shot mode does not reload is
-- this project's profile.)
abbrev pub timer1_after : Bool → Timer1 → Timer1
timer1_after free t =
    if t.reload then record t { counter = word t.latch_high t.latch_low; reload = false }
    else if not (runs_out t.counter) then record t { counter = one_less t.counter }
    else if free then record t { counter = 65535; reload = true }
    else record t { counter = 65535; armed = false }

-- The step sets timer 1's flag: the counter underflows, and the timer is free-running or armed.
abbrev pub timer1_flags : Bool → Timer1 → Bool
timer1_flags free t = not t.reload && runs_out t.counter && (free || t.armed)

-- A write of the counter's high byte starts timer 1. The counter becomes the latch, and the next
-- step loads it once more.
abbrev pub timer1_started : ℕ → Timer1 → Timer1
timer1_started high t = record t { counter = word high t.latch_low; latch_high = high; reload = true; armed = true }

-- One step of timer 2, which does not count if ACR bit 5 is set. Otherwise it counts in each step
-- except the first after it was written. An underflow clears `armed`.
abbrev pub timer2_after : Bool → Timer2 → Timer2
timer2_after still t =
    if still then t
    else if t.fresh then record t { fresh = false }
    else if not (runs_out t.counter) then record t { counter = one_less t.counter }
    else record t { counter = 65535; armed = false }

-- The step sets timer 2's flag: the counter underflows, and the timer is armed.
abbrev pub timer2_flags : Bool → Timer2 → Bool
timer2_flags still t = not still && not t.fresh && runs_out t.counter && t.armed

-- A write of the counter's high byte starts timer 2: the counter becomes that byte and the low
-- latch.
abbrev pub timer2_started : ℕ → Timer2 → Timer2
timer2_started high t = record t { counter = word high t.latch_low; fresh = true; armed = true }
