-- The stored form of the chip: the number of quiet steps that come next, and the chip after them.
-- In a quiet step both timers only count down.
use Rattle.std.specs.Prelude.{ℕ, ◌+◌, ◌≡◌, ◌<◌, ◌≤◌, Bool, false, if◌then◌else◌}
use Rattle.beeb_bits.specs.Bits.{bit}
use Rattle.via6522.specs.declared.Pins.{Pins}
use Rattle.via6522.specs.State.{State, Timer1, Timer2, ControlLines}

-- the levels of the four lines in one number, CA1's in bit 0
abbrev pub levels_in : ℕ → ControlLines
levels_in lines = record { ca1 = bit lines 0; ca2 = bit lines 1; cb1 = bit lines 2; cb2 = bit lines 3 }

-- pins with the levels in `lines`
abbrev pub pins_with : ℕ → Pins
pins_with lines = record { a = 0; b = 0; ca1 = bit lines 0; ca2 = bit lines 1; cb1 = bit lines 2; cb2 = bit lines 3 }

abbrev pub timer1_ahead : ℕ → Timer1 → Timer1
timer1_ahead n t = record t { counter = t.counter + n }

-- timer 2 does not count if ACR bit 5 is set
abbrev pub timer2_ahead : Bool → ℕ → Timer2 → Timer2
timer2_ahead still n t = if still then t else record t { counter = t.counter + n }

-- the chip n quiet steps earlier
abbrev pub ahead : ℕ → State → State
ahead n c = record c { timer1 = timer1_ahead n c.timer1; timer2 = timer2_ahead (bit c.acr 5) n c.timer2 }

-- the chip's next n steps are quiet
pub record NextAreQuiet (n : ℕ) (c : State) : Type 0 where
  pub within1 : n ≤ c.timer1.counter
  pub within2 : bit c.acr 5 ≡ false → n ≤ c.timer2.counter
  pub loaded : 0 < n → c.timer1.reload ≡ false
  pub begun : 0 < n → bit c.acr 5 ≡ false → c.timer2.fresh ≡ false

-- n quiet steps lead to the chip c
pub record IsQuiet (n : ℕ) (c : State) : Type 0 where
  pub within1 : c.timer1.counter + n < 65536
  pub within2 : bit c.acr 5 ≡ false → c.timer2.counter + n < 65536
  pub loaded : 0 < n → c.timer1.reload ≡ false
  pub begun : 0 < n → bit c.acr 5 ≡ false → c.timer2.fresh ≡ false
