-- Words of the code that does many clocks at once. No public clause uses them. In a quiet clock no
-- output of a tone changes and the noise does not shift: counters only go down.
use Rattle.std.specs.Prelude.{ℕ, ◌+◌, ◌-◌, ◌<◌, ◌≤◌, ◌%◌}
use Rattle.sn76489.specs.State.{State, Tone, Noise}
use Rattle.sn76489.specs.Clock.{shift_clocks}

-- the number of next clocks that only lower a tone's counter
abbrev pub tone_quiet : Tone → ℕ
tone_quiet t = t.counter - 1

-- a number of clocks after the clock `number` without a shift of the noise by its rate
abbrev pub noise_quiet : ℕ → Noise → ℕ
noise_quiet number n = shift_clocks (n.control % 4) - 1 - number % shift_clocks (n.control % 4)

-- the state after n quiet clocks
abbrev pub tone_lowered : ℕ → Tone → Tone
tone_lowered n t = record t { counter = t.counter - n }

abbrev pub lower_leaves : ℕ → State → State
lower_leaves n c = record c {
  tone1 = tone_lowered n c.tone1;
  tone2 = tone_lowered n c.tone2;
  tone3 = tone_lowered n c.tone3;
  count = (c.count + n) % 128;
}

-- the next n clocks are quiet
pub record IsQuiet (n : ℕ) (c : State) : Type 0 where
  pub tone1 : n ≤ tone_quiet c.tone1
  pub tone2 : n ≤ tone_quiet c.tone2
  pub tone3 : n ≤ tone_quiet c.tone3
  pub noise : n ≤ noise_quiet c.count c.noise
  pub count : c.count < 128
