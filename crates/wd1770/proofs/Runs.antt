-- Steps one after another.
use Rattle.std.proofs.Common.{◌≡◌, ◌∙◌, sym, refl, ap, ℕ, zero, suc, ◌-◌, ◌<◌, ◌&&◌, ◌||◌, nat_lt, Bool, true, false, not, if◌then◌else◌, Option, Some, arith}
use Rattle.std.proofs.lemmas.Bool.{lt-ltb}
use Rattle.std.proofs.lemmas.Grind.{common_steps}
use Rattle.wd1770.specs.declared.command.Command.{Command}
use Rattle.wd1770.specs.declared.command.Command.TheVariants.{Idle, Moving}
use Rattle.wd1770.specs.declared.command.Motion.{Motion}
use Rattle.wd1770.specs.State.{State}
use Rattle.wd1770.specs.Ends.{is_busy, is_motor_on, is_asking, count_leaves}
use Rattle.wd1770.specs.Step.{next_angle, command_step, step, steps}

pub no_steps : (s : State) → steps 0 s ≡ s
unfolding steps
no_steps s = refl

no_rise : (b : Bool) (x y : ℕ) → (if b && not b then x else y) ≡ y
no_rise true x y = refl
no_rise false x y = refl

-- if the line does not rise, nothing is counted
pub stays : (s : State) → count_leaves (is_asking s) s ≡ s
stays s = ap (λ (n : ℕ). record s { nmis = n }) (no_rise (is_asking s) _ s.nmis)

idle_step : (s : State) → s.command ≡ Idle → step s ≡ record s { angle = Some (next_angle s.angle); motor = s.motor - 1 }
idle_step s idle =
    ap (λ (c : Command). count_leaves (is_asking s) (command_step c (next_angle s.angle) (record s { angle = Some (next_angle s.angle) }))) idle
    ∙ stays (record s { angle = Some (next_angle s.angle); motor = s.motor - 1 })

none_less : (s : State) → s ≡ record s { angle = s.angle; motor = s.motor - 0 }
none_less s = let same : s.motor ≡ s.motor - 0 = omega arith in ap (λ (n : ℕ). record s { motor = n }) same

pub idle_stays : (s : State) (n : ℕ) → s.command ≡ Idle → steps n s ≡ record s { angle = (steps n s).angle; motor = s.motor - n }
unfolding steps
idle_stays s zero idle = none_less s
idle_stays s (suc n) idle =
    let before : steps n s ≡ record s { angle = (steps n s).angle; motor = s.motor - n } = idle_stays s n idle in
    let still : (steps n s).command ≡ Idle = ap (λ (t : State). t.command) before ∙ idle in
    let last : step (steps n s) ≡ record (steps n s) { angle = Some (next_angle (steps n s).angle); motor = (steps n s).motor - 1 } = idle_step (steps n s) still in
    let time : s.motor - n - 1 ≡ s.motor - suc n = omega arith in
    last
    ∙ ap (λ (t : State). record t { angle = Some (next_angle (steps n s).angle); motor = t.motor - 1 }) before
    ∙ ap (λ (k : ℕ). record s { angle = Some (next_angle (steps n s).angle); motor = k }) time
    ∙ ap (λ (a : Option ℕ). record s { angle = a; motor = s.motor - suc n }) (sym (ap (λ (t : State). t.angle) last))

time_left : (motor n : ℕ) → nat_lt 0 (motor - n) ≡ nat_lt n motor
time_left motor n = grind (arith, common_steps)

pub motor_goes_off : (s : State) (n : ℕ) → s.command ≡ Idle → is_motor_on (steps n s) ≡ nat_lt n s.motor
motor_goes_off s n idle =
    ap is_motor_on (idle_stays s n idle) ∙ ap (λ (c : Command). is_busy c || nat_lt 0 (s.motor - n)) idle ∙ time_left s.motor n

waits : (s : State) (m : Motion) (left : ℕ) → s.command ≡ Moving m left → nat_lt 1 left ≡ true → (step s).command ≡ Moving m (left - 1)
waits s m left moves more = rw (moves, more) refl

ends : (s : State) (m : Motion) (left : ℕ) → s.command ≡ Moving m left → nat_lt 1 left ≡ false → ((step s).command ≡ Idle) × ((step s).intrq ≡ true)
ends s m left moves none = rw (moves, none) (refl, refl)

pub takes_its_time : (s : State) (m : Motion) (left n : ℕ) → s.command ≡ Moving m left → n < left → (steps n s).command ≡ Moving m (left - n)
unfolding steps
takes_its_time s m left zero moves inside =
    let all : left ≡ left - 0 = omega arith in moves ∙ ap (λ (k : ℕ). Moving m k) all
takes_its_time s m left (suc n) moves inside =
    let less : n < left = omega arith in
    let more : 1 < left - n = omega arith in
    let fewer : left - n - 1 ≡ left - suc n = omega arith in
    waits (steps n s) m (left - n) (takes_its_time s m left n moves less) (lt-ltb 1 (left - n) more) ∙ ap (λ (k : ℕ). Moving m k) fewer

-- the last step of a motion
last_step : (s : State) (m : Motion) (left n : ℕ) → s.command ≡ Moving m left → left ≡ suc n → ((steps left s).command ≡ Idle) × ((steps left s).intrq ≡ true)
unfolding steps
last_step s m left n moves one =
    let less : n < left = omega arith in
    let over : left - n ≡ 1 = omega arith in
    rw one (ends (steps n s) m (left - n) (takes_its_time s m left n moves less) (rw over refl))

pub motion_ends : (s : State) (m : Motion) (left : ℕ) → s.command ≡ Moving m left → 0 < left → ((steps left s).command ≡ Idle) × ((steps left s).intrq ≡ true)
motion_ends s m left moves some = let one : left ≡ suc (left - 1) = omega arith in last_step s m left (left - 1) moves one
