-- The motor after a command.
use Rattle.std.proofs.Common.{◌≡◌, ◌∙◌, ap, subst, ℕ, ◌+◌, ◌-◌, ◌||◌, Bool, List, [], ◌∷◌, arith}
use Rattle.std.specs.Prelude.{nat_lt, if◌then◌else◌}
use Rattle.wd1770.specs.declared.command.Command.TheVariants.{Idle}
use Rattle.wd1770.specs.State.{State}
use Rattle.wd1770.specs.Ends.{is_busy, is_motor_on}
use Rattle.wd1770.specs.Registers.{read_leaves}
use Rattle.wd1770.specs.Step.{step}
use Rattle.wd1770.specs.History.{Event, microsecond, read, write, latch, history, count_steps}
use Rattle.law_chips.specs.Searches.{AllWait}

-- No command is in progress, and the motor goes off after `left` steps.
pub record Runs (left : ℕ) (s : State) : Type 0 where
  pub command : s.command ≡ Idle
  pub motor : s.motor ≡ left

rest_step : (left : ℕ) (s : State) → Runs left s → Runs (left - 1) (step s)
rest_step left s is = grind arith

rest_read : (left reg : ℕ) (s : State) → Runs left s → Runs left (read_leaves reg s)
rest_read left reg s is = grind arith

rests : (left : ℕ) (events : List Event) (s : State) → AllWait events → Runs left s → Runs (left - count_steps events) (history events s)
rests left [] s all is =
    let same : left ≡ left - 0 = omega arith in
    subst (λ n. Runs n s) same is
rests left (microsecond ∷ es) s all is =
    let same : left - 1 - count_steps es ≡ left - (count_steps es + 1) = omega arith in
    subst (λ n. Runs n (history es (step s))) same (rests (left - 1) es (step s) all.1 (rest_step left s is))
rests left (read reg ∷ es) s all is = rests left es (read_leaves reg s) all.1 (rest_read left reg s is)
rests left (write reg v ∷ es) s all is = absurd all.0
rests left (latch v ∷ es) s all is = absurd all.0

still_on : (left n : ℕ) → nat_lt 0 (left - n) ≡ nat_lt n left
still_on left n = grind arith

pub motor_rests : (left : ℕ) (s : State) → Runs left s → (events : List Event) → AllWait events → is_motor_on (history events s) ≡ nat_lt (count_steps events) left
motor_rests left s is events all =
    let r = rests left events s all is in
    ap (λ c. is_busy c || nat_lt 0 (history events s).motor) r.command ∙ ap (λ n. nat_lt 0 n) r.motor ∙ still_on left (count_steps events)
