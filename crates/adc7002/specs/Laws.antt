-- The ends of conversions and the registers then, over runs of steps with any levels. (uPD7002 data
-- sheet.)
use Rattle.std.specs.Prelude.{ℕ, ◌+◌, ◌*◌, ◌/◌, ◌%◌, ◌≡◌, ◌<◌, Bool, true, false, List, length, slice_index, if◌then◌else◌}
use Rattle.adc7002.specs.State.{State}
use Rattle.adc7002.specs.Registers.{channel, has_12_bits, duration, write_leaves, answer_of, cb1}
use Rattle.adc7002.specs.Step.{step, after_steps}

-- a level to 12 bits, or to 8
abbrev pub rounded_level : Bool → ℕ → ℕ
rounded_level long level = if long then 16 * (level / 16) else 256 * (level / 256)

-- The registers after a conversion that v began and that ended at `level`. The status has bit 6,
-- the level's two highest bits, and the bits of v. The two data bytes have the level.
pub record ShowsTheLevel (v level : ℕ) (a : State) : Type 0 where
  pub status : answer_of 0 a ≡ 0x40 + 16 * (level / 16384) + v % 16
  pub word : 256 * answer_of 1 a + answer_of 2 a ≡ rounded_level (has_12_bits v) level
  pub line : cb1 a ≡ false

-- The registers during a conversion that v began. The status has bit 7 and the low bits of v. The
-- rest is the earlier result, that of `earlier`.
pub record ShowsTheEarlier (v : ℕ) (earlier a : State) : Type 0 where
  pub status : answer_of 0 a ≡ 0x80 + 16 * (earlier.high / 64) + v % 16
  pub high : answer_of 1 a ≡ answer_of 1 earlier
  pub low : answer_of 2 a ≡ answer_of 2 earlier
  pub line : cb1 a ≡ true

-- A conversion ends at its last step, with its channel's level in that step. The steps after it
-- change nothing.
abbrev pub EndsInTime : Type 0
EndsInTime =
    (a : State) (v : ℕ) (before : List (List ℕ)) (levels : List ℕ) (after : List (List ℕ)) →
    length before + 1 ≡ duration v → slice_index levels (channel v) < 65536 →
    ShowsTheLevel v (slice_index levels (channel v)) (after_steps after (step levels (after_steps before (write_leaves 0 v a))))

-- Before that step the conversion is in progress.
abbrev pub GoesOnUntilThen : Type 0
GoesOnUntilThen =
    (a : State) (v : ℕ) (before : List (List ℕ)) → length before < duration v →
    ShowsTheEarlier v a (after_steps before (write_leaves 0 v a))

-- If the write of w stops a conversion, the state is as if that conversion had not begun.
abbrev pub GivenUpLeavesNothing : Type 0
GivenUpLeavesNothing =
    (a : State) (v w : ℕ) (before : List (List ℕ)) → length before < duration v →
    write_leaves 0 w (after_steps before (write_leaves 0 v a)) ≡ write_leaves 0 w a
