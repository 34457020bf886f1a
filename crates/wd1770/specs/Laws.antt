-- Laws over runs of steps.
use Rattle.std.specs.Prelude.{ℕ, ◌≡◌, ◌<◌, ◌-◌, nat_lt, true}
use Rattle.wd1770.specs.declared.command.Command.TheVariants.{Idle, Moving}
use Rattle.wd1770.specs.declared.command.Motion.{Motion}
use Rattle.wd1770.specs.State.{State}
use Rattle.wd1770.specs.Ends.{is_motor_on}
use Rattle.wd1770.specs.Step.{steps}

-- If no command is in progress, only the angle and the motor's time change. Registers, heads,
-- discs, DRQ, INTRQ and the count of rises stay.
abbrev pub IdleStays : Type 0
IdleStays = (s : State) (n : ℕ) → s.command ≡ Idle → steps n s ≡ record s { angle = (steps n s).angle; motor = s.motor - n }

-- The motor is then on until its time is over.
abbrev pub MotorGoesOff : Type 0
MotorGoesOff = (s : State) (n : ℕ) → s.command ≡ Idle → is_motor_on (steps n s) ≡ nat_lt n s.motor

-- A type I command is in progress until its time is over, and then ends with INTRQ.
abbrev pub MotionTakesItsTime : Type 0
MotionTakesItsTime = (s : State) (m : Motion) (left n : ℕ) → s.command ≡ Moving m left → n < left → (steps n s).command ≡ Moving m (left - n)

abbrev pub MotionEnds : Type 0
MotionEnds = (s : State) (m : Motion) (left : ℕ) → s.command ≡ Moving m left → 0 < left → ((steps left s).command ≡ Idle) × ((steps left s).intrq ≡ true)
