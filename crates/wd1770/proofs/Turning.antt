-- Only the turning of the discs changes the angle.
use Rattle.std.proofs.Common.{◌≡◌, refl, ℕ, ◌+◌, ◌%◌, Bool, true, false, if◌then◌else◌, Option, None, Some, arith}
use Rattle.std.proofs.lemmas.Grind.{common_steps}
use Rattle.wd1770.specs.declared.drive.Drive.{Drive}
use Rattle.wd1770.specs.declared.drive.DriveNumber.{DriveNumber}
use Rattle.wd1770.specs.declared.drive.DriveNumber.TheVariants.{Drive0, Drive1}
use Rattle.wd1770.specs.declared.drive.Target.{Target}
use Rattle.wd1770.specs.declared.command.Command.{Command}
use Rattle.wd1770.specs.declared.command.Command.TheVariants.{Idle, Moving, Settling, Searching, Transferring, SeekingAddress, GivingAddress, Refusing}
use Rattle.wd1770.specs.declared.command.Transfer.{Transfer}
use Rattle.wd1770.specs.State.{State}
use Rattle.wd1770.specs.Select.{with_drive}
use Rattle.wd1770.specs.Sectors.{reading_at, writing_at, written_in, places_into}
use Rattle.wd1770.specs.Addresses.{address_at}
use Rattle.wd1770.specs.Step.{next_angle, command_step, step}

-- both branches have the angle
either : (b : Bool) (x y s : State) → x.angle ≡ s.angle → y.angle ≡ s.angle → (if b then x else y).angle ≡ s.angle
either true x y s p q = p
either false x y s p q = q

drive_put : (number : DriveNumber) (d : Drive) (s : State) → (with_drive number d s).angle ≡ s.angle
drive_put Drive0 d s = refl
drive_put Drive1 d s = refl

byte_put : (number : Option DriveNumber) (target : Target) (k at v : ℕ) (s : State) → (written_in number target k at v s).angle ≡ s.angle
byte_put None target k at v s = refl
byte_put (Some Drive0) target k at v s = refl
byte_put (Some Drive1) target k at v s = refl

in_reading : (t : Transfer) (k : ℕ) (place : Option ℕ) (s : State) → (reading_at t k place s).angle ≡ s.angle
in_reading t k None s = refl
in_reading t k (Some place) s = grind arith

in_writing : (t : Transfer) (k : ℕ) (place : Option ℕ) (s : State) → (writing_at t k place s).angle ≡ s.angle
in_writing t k None s = refl
in_writing t k (Some place) s = grind (arith, byte_put)

in_address : (target : Target) (k : ℕ) (place : Option ℕ) (s : State) → (address_at target k place s).angle ≡ s.angle
in_address target k None s = refl
in_address target k (Some place) s = grind arith

keeps_angle : (c : Command) (angle : ℕ) (s : State) → (command_step c angle s).angle ≡ s.angle
keeps_angle Idle angle s = refl
keeps_angle (Moving m left) angle s = grind (arith, drive_put)
keeps_angle (Settling t left) angle s = refl
keeps_angle (Searching t left) angle s = grind arith
keeps_angle (Transferring t k) angle s = grind (arith, in_writing, in_reading)
keeps_angle (SeekingAddress target left) angle s = grind arith
keeps_angle (GivingAddress target k) angle s = in_address target k (places_into k angle) s
keeps_angle Refusing angle s = refl

pub turned : (s : State) → (step s).angle ≡ Some (next_angle s.angle)
turned s = keeps_angle s.command (next_angle s.angle) (record s { angle = Some (next_angle s.angle) })

pub one_more : (m : ℕ) → (m % 200000 + 1) % 200000 ≡ (m + 1) % 200000
one_more m = grind (arith, common_steps)
