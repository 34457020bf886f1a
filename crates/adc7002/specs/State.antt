-- The uPD7002, the analogue to digital converter: four channels, one conversion at a time, to 8
-- bits or to 12. (uPD7002 data sheet.)
use Rattle.std.specs.Prelude.{ℕ, Bool, false}

pub record State : Type 0 where
  -- the low four bits of the last byte that was written to register 0
  pub kept : ℕ
  -- the number of steps before the conversion ends; 0 if none is in progress
  pub left : ℕ
  -- the result's two bytes
  pub high : ℕ
  pub low : ℕ
  -- a conversion has ended after the last write to register 0
  pub has_ended : Bool

-- At power-on all is 0.
abbrev pub power_on : State
power_on = record { kept = 0; left = 0; high = 0; low = 0; has_ended = false }
