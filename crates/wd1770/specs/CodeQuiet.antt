-- Quiet steps: only the discs' angle and the waiting times change.
use Rattle.std.specs.Prelude.{ℕ, ◌+◌, ◌-◌, ◌*◌, ◌%◌, ◌==◌, ◌≡◌, ◌≤◌, min, nat_lt, Option, None, Some, if◌then◌else◌}
use Rattle.wd1770.specs.declared.command.Command.{Command}
use Rattle.wd1770.specs.declared.command.Command.TheVariants.{Idle, Moving, Settling, Searching, Transferring, SeekingAddress, GivingAddress, Refusing}
use Rattle.wd1770.specs.State.{State}
use Rattle.wd1770.specs.Step.{next_angle, steps}

-- the angle n steps later
abbrev pub angle_later : ℕ → Option ℕ → Option ℕ
angle_later n angle = if n == 0 then angle else Some ((next_angle angle + (n - 1)) % 200000)

-- a command that waits has n steps less to wait
abbrev pub command_later : ℕ → Command → Command
command_later n Idle = Idle
command_later n (Moving m left) = Moving m (left - n)
command_later n (Settling t left) = Settling t (left - n)
command_later n (Searching t left) = Searching t (left - n)
command_later n (Transferring t k) = Transferring t k
command_later n (SeekingAddress target left) = SeekingAddress target (left - n)
command_later n (GivingAddress target k) = GivingAddress target k
command_later n Refusing = Refusing

-- the motor's time passes only if no command is in progress
abbrev pub motor_later : ℕ → Command → ℕ → ℕ
motor_later n Idle motor = motor - n
motor_later n _ motor = motor

abbrev pub later : ℕ → State → State
later n s = record s {
  angle = angle_later n s.angle;
  command = command_later n s.command;
  motor = motor_later n s.command s.motor;
}

-- the number of steps before the next place passes
abbrev pub steps_between : Option ℕ → ℕ
steps_between None = 0
steps_between (Some angle) = 63 - angle % 64

-- The number of steps before the beginning of sector k passes. A sector past the end of the turn
-- never begins.
abbrev pub steps_before : Option ℕ → ℕ → ℕ
steps_before None k = 0
steps_before (Some angle) k =
    if nat_lt (64 * (312 * k)) 200000 then (64 * (312 * k) + 199999 - angle % 200000) % 200000 else 0xFFFFFFFF

-- A number of quiet steps. They end before a command's time is over, and before a search reaches
-- its sector. For a command at a sector, or one that looks for any, they end before the next place.
abbrev pub quiet_steps : Command → Option ℕ → ℕ → ℕ
quiet_steps Idle angle sector = 0xFFFFFFFF
quiet_steps (Moving m left) angle sector = left - 1
quiet_steps (Settling t left) angle sector = left - 1
quiet_steps (Searching t left) angle sector = min (left - 1) (steps_before angle sector)
quiet_steps (Transferring t k) angle sector = steps_between angle
quiet_steps (SeekingAddress target left) angle sector = min (left - 1) (steps_between angle)
quiet_steps (GivingAddress target k) angle sector = steps_between angle
quiet_steps Refusing angle sector = 0

-- In each of the next n steps only the angle, the waiting time of the command, and the motor's time
-- change.
abbrev pub RestsFor : ℕ → State → Type 0
RestsFor n s =
    (m : ℕ) → m ≤ n →
    steps m s ≡ record s {
      angle = (steps m s).angle;
      command = (steps m s).command;
      motor = (steps m s).motor;
    }
