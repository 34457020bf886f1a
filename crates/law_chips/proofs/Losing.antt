-- Lost data stays set while a command is in progress.
use Rattle.std.proofs.Common.{arith, ◌≡◌, refl, ℕ, Bool, true, false}
use Rattle.std.specs.Prelude.{Option, Some, if◌then◌else◌}
use Rattle.wd1770.specs.declared.drive.Drive.{Drive}
use Rattle.wd1770.specs.declared.drive.DriveNumber.{DriveNumber}
use Rattle.wd1770.specs.declared.drive.DriveNumber.TheVariants.{Drive0, Drive1}
use Rattle.wd1770.specs.declared.drive.Target.{Target}
use Rattle.wd1770.specs.declared.command.Command.{Command}
use Rattle.wd1770.specs.declared.command.Transfer.{Transfer}
use Rattle.wd1770.specs.State.{State}
use Rattle.wd1770.specs.Select.{with_drive}
use Rattle.wd1770.specs.Sectors.{sector_ended, reading_at, writing_at}
use Rattle.wd1770.specs.Addresses.{address_at}
use Rattle.wd1770.specs.Step.{next_angle, command_step, step}

-- if `x` lost nothing, `s` had lost nothing either
Keeps : State → State → Type 0
Keeps s x = x.lost_data ≡ false → s.lost_data ≡ false

either : (b : Bool) (s x y : State) → Keeps s x → Keeps s y → Keeps s (if b then x else y)
either true s x y p q = p
either false s x y p q = q

put_keeps : (number : DriveNumber) (d : Drive) (s : State) → (with_drive number d s).lost_data ≡ s.lost_data
put_keeps Drive0 d s = refl
put_keeps Drive1 d s = refl

sector_end : (t : Transfer) (s : State) → Keeps s (sector_ended t s)
unfolding Keeps
sector_end t s = grind arith

reading : (t : Transfer) (k : ℕ) (place : Option ℕ) (s : State) → Keeps s (reading_at t k place s)
unfolding Keeps
reading t k place s = grind arith

writing : (t : Transfer) (k : ℕ) (place : Option ℕ) (s : State) → Keeps s (writing_at t k place s)
unfolding Keeps
writing t k place s = grind arith

addressing : (target : Target) (k : ℕ) (place : Option ℕ) (s : State) → Keeps s (address_at target k place s)
unfolding Keeps
addressing target k place s = grind arith

of_command : (c : Command) (angle : ℕ) (s : State) → Keeps s (command_step c angle s)
unfolding Keeps
of_command c angle s = grind (arith, either, put_keeps, writing, reading, addressing)

-- a step loses nothing that was not lost
pub kept_before : (s : State) → (step s).lost_data ≡ false → s.lost_data ≡ false
unfolding Keeps
kept_before s kept = of_command s.command (next_angle s.angle) (record s { angle = Some (next_angle s.angle) }) kept
