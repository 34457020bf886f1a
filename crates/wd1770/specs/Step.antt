-- One microsecond of the WD1770: its discs turn, and its command continues.
use Rattle.std.specs.Prelude.{ℕ, zero, suc, ◌+◌, ◌-◌, ◌%◌, Option, None, Some}
use Rattle.wd1770.specs.declared.command.Command.{Command}
use Rattle.wd1770.specs.declared.command.Command.TheVariants.{Idle, Moving, Settling, Searching, Transferring, SeekingAddress, GivingAddress, Refusing}
use Rattle.wd1770.specs.State.{State}
use Rattle.wd1770.specs.Ends.{is_asking, count_leaves, not_found}
use Rattle.wd1770.specs.Motion.{motion_step}
use Rattle.wd1770.specs.Sectors.{settle_step, search_step, transfer_step}
use Rattle.wd1770.specs.Addresses.{address_search_step, address_step}

-- A turn takes 200,000 steps. The first step after power-on is at angle 0.
abbrev pub next_angle : Option ℕ → ℕ
next_angle None = 0
next_angle (Some angle) = (angle + 1) % 200000

abbrev pub command_step : Command → ℕ → State → State
command_step Idle angle s = record s { motor = s.motor - 1 }
command_step (Moving m left) angle s = motion_step m left s
command_step (Settling t left) angle s = settle_step t left s
command_step (Searching t left) angle s = search_step t left angle s
command_step (Transferring t k) angle s = transfer_step t k angle s
command_step (SeekingAddress target left) angle s = address_search_step target left angle s
command_step (GivingAddress target k) angle s = address_step target k angle s
command_step Refusing angle s = not_found s

-- the step without the count of rises
abbrev pub work_leaves : State → State
work_leaves s = command_step s.command (next_angle s.angle) (record s { angle = Some (next_angle s.angle) })

abbrev pub step : State → State
step s = count_leaves (is_asking s) (work_leaves s)

-- n steps
unfoldable pub steps : ℕ → State → State
steps zero s = s
steps (suc n) s = step (steps n s)
