-- The samples of a list of writes: steps of a microsecond, a clock in each fourth, and a sample in
-- each 32nd. (BBC Microcomputer Advanced User Guide: the chip has a clock of 4 MHz, which it
-- divides by 16. The samples are this project's profile.)
use Rattle.std.specs.Prelude.{ℕ, zero, suc, ◌%◌, ◌==◌, ◌≤◌, List, [], ◌∷◌, ◌++◌, filter, ℤ, pos, if◌then◌else◌}
use Rattle.sn76489.specs.declared.SoundWrite.{SoundWrite}
use Rattle.sn76489.specs.State.{State, power_on}
use Rattle.sn76489.specs.Writes.{write_leaves}
use Rattle.sn76489.specs.Clock.{clock_leaves}
use Rattle.sn76489.specs.Level.{level}

-- moments that are at least m, and never fall
abbrev pub NeverFallFrom : ℕ → List SoundWrite → Type 0
NeverFallFrom m [] = Unit {0}
NeverFallFrom m (w ∷ writes) = (m ≤ w.moment) × NeverFallFrom w.moment writes

-- the writes of a list, one after another
abbrev pub after_writes : List SoundWrite → State → State
after_writes [] c = c
after_writes (w ∷ writes) c = after_writes writes (write_leaves w.byte c)

-- The writes that step m does. Each step does those of its moment, so they are those up to its
-- moment that were not done before.
abbrev pub writes_at : ℕ → List SoundWrite → List SoundWrite
writes_at m writes = filter (λ w. w.moment == m) writes

-- Step m: its writes, and then a clock if m is a multiple of 4.
abbrev pub after_step : List SoundWrite → ℕ → State → State
after_step writes m c = let w = after_writes (writes_at m writes) c in if m % 4 == 0 then clock_leaves w else w

-- the chip after power-on and the steps below m
unfoldable pub chip_before_step : List SoundWrite → ℕ → State
chip_before_step writes zero = power_on
chip_before_step writes (suc m) = after_step writes m (chip_before_step writes m)

-- The samples of a number of steps: the level at the end of each step whose number is a multiple of
-- 32.
unfoldable pub samples : List SoundWrite → ℕ → List ℤ
samples writes zero = []
samples writes (suc m) = samples writes m ++ (if m % 32 == 0 then pos (level (chip_before_step writes (suc m))) ∷ [] else [])
