-- What is heard of a tone: a square wave of the length of its period, with the amplitude of its
-- volume. (SN76489AN data sheet, Tone Generators, Attenuators, Data Formats. The clocks of a period
-- of 0 and the amplitude of volume 0 are this project's profile.)
use Rattle.std.specs.Prelude.{ℕ, ◌+◌, ◌-◌, ◌*◌, ◌/◌, ◌%◌, ◌^◌, max, ◌==◌, ◌≡◌, ◌≢◌, ◌<◌, Bool, not, List, [], ◌∷◌, slice_index, if◌then◌else◌}
use Rattle.sn76489.specs.State.{State, Tone}
use Rattle.sn76489.specs.Writes.{write_leaves}
use Rattle.sn76489.specs.Clock.{clocks}
use Rattle.sn76489.specs.Level.{level}

-- the three tone channels
pub data Channel : Type 0 where
  one : Channel
  two : Channel
  three : Channel

abbrev pub tone_of : Channel → State → Tone
tone_of one c = c.tone1
tone_of two c = c.tone2
tone_of three c = c.tone3

abbrev pub output : Channel → State → Bool
output k c = (tone_of k c).output

-- the byte that latches a channel's period, without its low four bits
abbrev pub period_byte : Channel → ℕ
period_byte one = 0x80
period_byte two = 0xA0
period_byte three = 0xC0

-- the byte that latches a channel's volume, without the volume
abbrev pub volume_byte : Channel → ℕ
volume_byte one = 0x90
volume_byte two = 0xB0
volume_byte three = 0xD0

-- Two bytes write period n: the first has its low four bits, and the second its upper six.
abbrev pub with_period : Channel → ℕ → State → State
with_period k n c = write_leaves (n / 16) (write_leaves (period_byte k + n % 16) c)

-- One byte writes volume v.
abbrev pub with_volume : Channel → ℕ → State → State
with_volume k v c = write_leaves (volume_byte k + v) c

-- the clocks of half a wave: the period, or 1,024 for a period of 0
abbrev pub half_wave : ℕ → ℕ
half_wave n = if n == 0 then 1024 else n

-- A square wave j clocks after its first clock: it has changed once for each half wave that is
-- over.
abbrev pub square : ℕ → ℕ → Bool → Bool
square half j first = if j / half % 2 == 0 then first else not first

-- After any state a program writes period n, and no more. The output first changes in the clock of
-- the number in the counter, or in clock 1. From each clock that changes it on, the output is a
-- square wave. Neither a volume nor the period of another channel alters an output.
pub record TonesAreSquareWaves : Type 0 where
  pub begins : (k : Channel) (n : ℕ) (c : State) → n < 1024 →
      let first = max (tone_of k c).counter 1 in
      output k (clocks first (with_period k n c)) ≡ not (output k c)
  pub rests : (k : Channel) (n m : ℕ) (c : State) → n < 1024 → m < max (tone_of k c).counter 1 →
      output k (clocks m (with_period k n c)) ≡ output k c
  pub wave : (k : Channel) (n m j : ℕ) (c : State) → n < 1024 →
      let w = with_period k n c in
      output k (clocks (m + 1) w) ≡ not (output k (clocks m w)) →
      output k (clocks (m + 1 + j) w) ≡ square (half_wave n) j (output k (clocks (m + 1) w))
  pub any_volume : (k other : Channel) (v m : ℕ) (c : State) → v < 16 → output k (clocks m (with_volume other v c)) ≡ output k (clocks m c)
  pub any_other : (k other : Channel) (n m : ℕ) (c : State) → n < 1024 → k ≢ other →
      output k (clocks m (with_period other n c)) ≡ output k (clocks m c)

-- the amplitudes of volumes 0 to 15
abbrev pub amplitude : ℕ → ℕ
amplitude v =
    slice_index (8191 ∷ 6506 ∷ 5168 ∷ 4105 ∷ 3261 ∷ 2590 ∷ 2057 ∷ 1634 ∷ 1298 ∷ 1031 ∷ 819 ∷ 650 ∷ 517 ∷ 410 ∷ 326 ∷ 0 ∷ []) v

-- After a volume is written, a tone whose output is 1 adds its amplitude to the level. One whose
-- output is 0 adds nothing. Ten volumes are 20 dB, the tenth part: each amplitude to volume 14
-- differs by less than 1 from 8,191 times the v-th power of the tenth root of a tenth. If all four
-- volumes are 15, the level is 0.
pub record VolumesAreAmplitudes : Type 0 where
  pub adds : (k : Channel) (v m : ℕ) (c : State) → v < 16 →
      let w = clocks m (with_volume k v c) in
      level w ≡ level (with_volume k 15 w) + (if output k w then amplitude v else 0)
  pub at_least : (v : ℕ) → v < 15 → 8191 ^ 10 < (amplitude v + 1) ^ 10 * 10 ^ v
  pub at_most : (v : ℕ) → v < 15 → (amplitude v - 1) ^ 10 * 10 ^ v < 8191 ^ 10
  pub silence : (c : State) → level (write_leaves 0xFF (with_volume one 15 (with_volume two 15 (with_volume three 15 c)))) ≡ 0
