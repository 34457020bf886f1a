-- The writes to the sound chip, each with its moment. (Acorn, BBC Microcomputer Advanced User
-- Guide, sound generator. That moments are whole microseconds, and the number of writes, are this
-- project's profile.)
use Rattle.std.specs.Prelude.{ℕ, ◌+◌, ◌-◌, ◌*◌, ◌/◌, ◌<◌, nat_lt, List, [], ◌∷◌, ◌++◌, length, if◌then◌else◌}
use Rattle.sn76489.specs.declared.SoundWrite.{SoundWrite}
use Rattle.sn76489.specs.Samples.{NeverFallFrom}

-- The moment of a write after all ticks below `closed`, with u ticks in a microsecond: the number
-- of the next microsecond. At tick t the microseconds up to t / u are done, and the ticks below t +
-- 1: the moment is t / u + 1.
abbrev pub moment_at : ℕ → ℕ → ℕ
moment_at u closed = (closed + (u - 1)) / u

-- The list holds the first 1,048,576 writes. Later ones are ignored.
abbrev pub with_write : SoundWrite → List SoundWrite → List SoundWrite
with_write write sound = if nat_lt (length sound) 1048576 then sound ++ write ∷ [] else sound

-- the moment of the last write after one of moment m, or m
abbrev pub last_moment_from : ℕ → List SoundWrite → ℕ
last_moment_from m [] = m
last_moment_from m (w ∷ writes) = last_moment_from w.moment writes

-- the moment of the last write, or 0
abbrev pub last_moment : List SoundWrite → ℕ
last_moment sound = last_moment_from 0 sound

-- Moments never fall. With u ticks in a microsecond and all ticks below `closed` done, the last
-- moment is at most that of a write now.
pub record IsInTime (u closed : ℕ) (sound : List SoundWrite) : Type 0 where
  pub order : NeverFallFrom 0 sound
  pub last : last_moment sound * u < closed + u
