-- The voices over runs of clocks without a write. (SN76489AN data sheet, Tone Generators, Noise
-- Generator and Attenuators.)
use Rattle.std.specs.Prelude.{ℕ, zero, suc, max, ◌+◌, ◌-◌, ◌/◌, ◌%◌, ◌==◌, ◌≡◌, ◌≢◌, ◌≤◌, ◌&&◌, nat_le, Bool, not, if◌then◌else◌}
use Rattle.sn76489.specs.State.{State, Tone, start}
use Rattle.sn76489.specs.Clock.{period_clocks, is_white, shift_clocks, shift_leaves, clocks}
use Rattle.sn76489.specs.Level.{loudness, noise_output}

-- P holds of each of the three tones
pub record OfEachTone (P : (State → Tone) → Type 0) : Type 0 where
  pub tone1 : P (λ c. c.tone1)
  pub tone2 : P (λ c. c.tone2)
  pub tone3 : P (λ c. c.tone3)

-- an output that changes its level or does not
abbrev pub output_after : Bool → Bool → Bool
output_after turns output = if turns then not output else output

-- Clocks count from 1. The output changes first in the clock of the number in the counter, or in
-- clock 1, and then once in each period.
abbrev pub turns_at : ℕ → Tone → Bool
turns_at n t = nat_le (max t.counter 1) n && ((n - max t.counter 1) % period_clocks t.period == 0)

abbrev pub TurnsOver : (State → Tone) → Type 0
TurnsOver tone =
    (c : State) (n : ℕ) →
    (tone (clocks (n + 1) c)).output ≡ output_after (turns_at (n + 1) (tone c)) (tone (clocks n c)).output

-- A period of 0 is one of 1,024. Such a tone, with its counter at most 1, changes its output in the
-- first clock and then in each 1,024th.
abbrev pub TurnsAtPeriod0 : (State → Tone) → Type 0
TurnsAtPeriod0 tone =
    (c : State) (n : ℕ) → (tone c).period ≡ 0 → (tone c).counter ≤ 1 →
    (tone (clocks (n + 1) c)).output ≡ output_after (n % 1024 == 0) (tone (clocks n c)).output

-- A tone of period 1 changes its output in each clock.
abbrev pub TurnsAtPeriod1 : (State → Tone) → Type 0
TurnsAtPeriod1 tone =
    (c : State) (n : ℕ) → (tone c).period ≡ 1 → (tone c).counter ≤ 1 →
    (tone (clocks (n + 1) c)).output ≡ not (tone (clocks n c)).output

-- n shifts of a register
unfoldable pub shifts : Bool → ℕ → ℕ → ℕ
shifts white zero register = register
shifts white (suc n) register = shifts white n (shift_leaves white register)

-- the number of shifts after which the register has its first value again
abbrev pub cycle : Bool → ℕ
cycle white = if white then 32767 else 15

-- White noise repeats after 32,767 shifts, and periodic noise after 15. The register has its first
-- value after each multiple of that number, and at no other time.
abbrev pub NoiseRepeats : Type 0
NoiseRepeats = (white : Bool) (n : ℕ) → (shifts white n start == start) ≡ (n % cycle white == 0)

-- Clocks count from the chip's first. At rates 0 to 2 the noise shifts in each clock whose number
-- is a multiple of 32, 64 or 128.
abbrev pub NoiseShiftsInTime : Type 0
NoiseShiftsInTime =
    (c : State) (n : ℕ) → c.noise.control % 4 ≢ 3 →
    let each = shift_clocks (c.noise.control % 4) in
    (clocks n c).noise.register ≡ shifts (is_white c.noise) ((c.count % each + n) / each) c.noise.register

-- A tone of volume 15 is silent, and so is the noise.
abbrev pub IsSilentAt15 : (State → Tone) → Type 0
IsSilentAt15 tone =
    (c : State) (n : ℕ) → (tone c).volume ≡ 15 → loudness (tone (clocks n c)).output (tone (clocks n c)).volume ≡ 0

abbrev pub NoiseIsSilentAt15 : Type 0
NoiseIsSilentAt15 =
    (c : State) (n : ℕ) → c.noise.volume ≡ 15 → loudness (noise_output (clocks n c).noise) (clocks n c).noise.volume ≡ 0
