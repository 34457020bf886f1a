-- The time during which the line to CB1 does not change.
use Rattle.std.specs.Prelude.{ℕ, ◌≡◌, ◌≤◌, List, length}
use Rattle.adc7002.specs.State.{State}
use Rattle.adc7002.specs.Registers.{cb1}
use Rattle.adc7002.specs.Step.{after_steps}

-- The line is as it is now after each of the next n steps, with any levels.
abbrev pub KeepsItsLine : ℕ → State → Type 0
KeepsItsLine n a = (levels : List (List ℕ)) → length levels ≤ n → cb1 (after_steps levels a) ≡ cb1 a
