-- The 6522, or Versatile Interface Adapter: two ports, four control lines, two timers, and the
-- flags that request an interrupt.
use Rattle.std.specs.Prelude.{ℕ, Bool, false, true}

-- A bit for each cause of an interrupt, as IFR and IER have them in bits 6 to 0.
pub record InterruptFlags : Type 0 where
  pub timer1 : Bool
  pub timer2 : Bool
  pub cb1 : Bool
  pub cb2 : Bool
  pub shift : Bool
  pub ca1 : Bool
  pub ca2 : Bool

-- Timer 1: a counter of 16 bits, and a latch of two bytes for it.
pub record Timer1 : Type 0 where
  pub counter : ℕ
  pub latch_low : ℕ
  pub latch_high : ℕ
  -- the next step loads the counter from the latch
  pub reload : Bool
  -- the high byte was written after the timer last set its flag in one-shot mode
  pub armed : Bool

-- Timer 2: a counter of 16 bits, and a latch for its low byte.
pub record Timer2 : Type 0 where
  pub counter : ℕ
  pub latch_low : ℕ
  -- the next step does not count
  pub fresh : Bool
  -- the high byte was written after the timer last set its flag
  pub armed : Bool

-- The levels of the four control lines.
pub record ControlLines : Type 0 where
  pub ca1 : Bool
  pub ca2 : Bool
  pub cb1 : Bool
  pub cb2 : Bool

pub record State : Type 0 where
  -- the bytes written to the ports, and the direction registers: a set bit is an output
  pub orb : ℕ
  pub ora : ℕ
  pub ddrb : ℕ
  pub ddra : ℕ
  pub timer1 : Timer1
  pub timer2 : Timer2
  -- the shift register, the auxiliary control register and the peripheral control register
  pub sr : ℕ
  pub acr : ℕ
  pub pcr : ℕ
  -- IFR and IER
  pub flags : InterruptFlags
  pub enabled : InterruptFlags
  -- the levels of the last step
  pub levels : ControlLines

abbrev pub no_cause : InterruptFlags
no_cause = record { timer1 = false; timer2 = false; cb1 = false; cb2 = false; shift = false; ca1 = false; ca2 = false }

-- At power-on all is 0, except the earlier levels of CB1 and CB2. (Those levels are this project's
-- profile.)
abbrev pub power_on : State
power_on = record {
  orb = 0;
  ora = 0;
  ddrb = 0;
  ddra = 0;
  timer1 = record { counter = 0; latch_low = 0; latch_high = 0; reload = false; armed = false };
  timer2 = record { counter = 0; latch_low = 0; fresh = false; armed = false };
  sr = 0;
  acr = 0;
  pcr = 0;
  flags = no_cause;
  enabled = no_cause;
  levels = record { ca1 = false; ca2 = false; cb1 = true; cb2 = true };
}
