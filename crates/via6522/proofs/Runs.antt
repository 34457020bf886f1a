-- Steps one after another.
use Rattle.std.proofs.Common.{◌≡◌, refl, ℕ, zero, suc}
use Rattle.via6522.specs.declared.Pins.{Pins}
use Rattle.via6522.specs.State.{State}
use Rattle.via6522.specs.Step.{step, steps}

pub no_steps : (pins : Pins) (c : State) → steps pins 0 c ≡ c
unfolding steps
no_steps pins c = refl

-- n + 1 steps are n steps and one more
pub step_behind : (pins : Pins) (n : ℕ) (c : State) → steps pins (suc n) c ≡ step pins (steps pins n c)
unfolding steps
step_behind pins zero c = refl
step_behind pins (suc n) c = step_behind pins n (step pins c)
