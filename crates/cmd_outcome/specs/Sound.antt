-- The sound file: the sound of a host's writes to its sound chip.
use Rattle.std.specs.Prelude.{ℕ, zero, suc, ◌+◌, ◌%◌, ◌==◌, List, if◌then◌else◌}
use Rattle.beeb_bits.specs.declared.clock.Clock.{Clock}
use Rattle.beeb_bits.specs.Clock.{micro}
use Rattle.sn76489.specs.declared.SoundWrite.{SoundWrite}
use Rattle.sn76489.specs.Samples.{samples}
use Rattle.sn76489.specs.Wav.{wav}
use Rattle.host_mach.specs.State.{HostState}

-- The number of microseconds that begin below tick n, if each has u ticks and one begins at tick 0:
-- the number of m with u m below n.
abbrev pub microseconds_below : ℕ → ℕ → ℕ
microseconds_below u zero = 0
microseconds_below u (suc n) = microseconds_below u n + (if n % u == 0 then 1 else 0)

-- the sound file of the writes after a run of the given ticks: the samples of a step for each
-- microsecond
unfoldable pub sound_file : Clock → ℕ → List SoundWrite → List ℕ
sound_file clock ticks writes = wav (samples writes (microseconds_below (micro clock) ticks))

-- the writes of a host
abbrev pub sound_writes : HostState → List SoundWrite
sound_writes s = s.bus.bus.board.sound

-- the sound file of a host at its end
abbrev pub sound_bytes : Clock → ℕ → HostState → List ℕ
sound_bytes clock ticks s = sound_file clock ticks (sound_writes s)
