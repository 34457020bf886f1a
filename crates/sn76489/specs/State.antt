-- The SN76489AN, the sound chip: three tones and a noise, each with a volume. (SN76489AN data
-- sheet.)
use Rattle.std.specs.Prelude.{ℕ, Bool, false}

-- A tone: a counter goes down from the period, and at its end the output changes its level.
pub record Tone : Type 0 where
  -- ten bits
  pub period : ℕ
  pub counter : ℕ
  pub output : Bool
  -- four bits: the attenuation in steps of 2 dB, or 15, which is off
  pub volume : ℕ

-- The noise: its output is bit 0 of a shift register of 15 bits.
pub record Noise : Type 0 where
  -- three bits: bits 1 and 0 select the rate, and bit 2 white noise
  pub control : ℕ
  pub register : ℕ
  pub volume : ℕ

pub record State : Type 0 where
  pub tone1 : Tone
  pub tone2 : Tone
  pub tone3 : Tone
  pub noise : Noise
  -- the register that a byte with bit 7 clear is for
  pub latched : ℕ
  -- the number of clocks, modulo 128
  pub count : ℕ

-- the first value of the shift register
abbrev pub start : ℕ
start = 0x4000

abbrev pub silent_tone : Tone
silent_tone = record { period = 0; counter = 0; output = false; volume = 15 }

-- At power-on all is 0, except the volumes, which are 15, and the shift register. (That is this
-- project's profile.)
abbrev pub power_on : State
power_on = record {
  tone1 = silent_tone;
  tone2 = silent_tone;
  tone3 = silent_tone;
  noise = record { control = 0; register = start; volume = 15 };
  latched = 0;
  count = 0;
}
