-- A volume stays as it is from clock to clock, and that of 15 has no amplitude.
use Rattle.std.proofs.Common.{arith, ◌≡◌, ◌∙◌, refl, ℕ, zero, suc, Bool}
use Rattle.sn76489.specs.State.{State, Tone}
use Rattle.sn76489.specs.Clock.{clock_leaves, clocks}
use Rattle.sn76489.specs.Level.{loudness, noise_output}
use Rattle.sn76489.specs.Laws.{OfEachTone, IsSilentAt15, NoiseIsSilentAt15}

is_silent : (output : Bool) (volume : ℕ) → volume ≡ 15 → loudness output volume ≡ 0
is_silent output volume is = rw is (grind arith)

-- a tone of the chip keeps its volume
abbrev Keeps : (State → Tone) → Type 0
Keeps tone = (c : State) → (tone (clock_leaves c)).volume ≡ (tone c).volume

volume_stays : (tone : State → Tone) (n : ℕ) (c : State) → Keeps tone → (tone (clocks n c)).volume ≡ (tone c).volume
unfolding clocks
volume_stays tone zero c keeps = refl
volume_stays tone (suc n) c keeps = keeps (clocks n c) ∙ volume_stays tone n c keeps

keeps_noise : (c : State) → (clock_leaves c).noise.volume ≡ c.noise.volume
keeps_noise c = grind arith

noise_volume_stays : (n : ℕ) (c : State) → (clocks n c).noise.volume ≡ c.noise.volume
unfolding clocks
noise_volume_stays zero c = refl
noise_volume_stays (suc n) c = keeps_noise (clocks n c) ∙ noise_volume_stays n c

of_tone : (tone : State → Tone) → Keeps tone → IsSilentAt15 tone
of_tone tone keeps c n is = is_silent (tone (clocks n c)).output (tone (clocks n c)).volume (volume_stays tone n c keeps ∙ is)

pub all_silent : OfEachTone IsSilentAt15
all_silent = record {
  tone1 = of_tone (λ c. c.tone1) (λ c. grind arith);
  tone2 = of_tone (λ c. c.tone2) (λ c. grind arith);
  tone3 = of_tone (λ c. c.tone3) (λ c. grind arith);
}

pub noise_silent : NoiseIsSilentAt15
noise_silent c n is = is_silent (noise_output (clocks n c).noise) (clocks n c).noise.volume (noise_volume_stays n c ∙ is)
