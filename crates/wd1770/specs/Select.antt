-- The selection by the disc latch. Its bits: 0 drive 0, 1 drive 1, 2 side 1, 3 single density, 5 no
-- reset.
use Rattle.std.specs.Prelude.{ℕ, Bool, not, Option, None, Some, if◌then◌else◌, ◌==◌}
use Rattle.beeb_bits.specs.Bits.{bit}
use Rattle.disc_image.specs.Image.{Image}
use Rattle.wd1770.specs.declared.drive.Drive.{Drive}
use Rattle.wd1770.specs.declared.drive.DriveNumber.{DriveNumber}
use Rattle.wd1770.specs.declared.drive.DriveNumber.TheVariants.{Drive0, Drive1}
use Rattle.wd1770.specs.declared.drive.Target.{Target}
use Rattle.wd1770.specs.State.{State}

-- drive 0 if both are selected
abbrev pub drive_selected : ℕ → Option DriveNumber
drive_selected latch = if bit latch 0 then Some Drive0 else if bit latch 1 then Some Drive1 else None

abbrev pub side_selected : ℕ → ℕ
side_selected latch = if bit latch 2 then 1 else 0

abbrev pub is_single_density : ℕ → Bool
is_single_density latch = bit latch 3

abbrev pub is_reset : ℕ → Bool
is_reset latch = not (bit latch 5)

abbrev pub drive_of : DriveNumber → State → Drive
drive_of Drive0 s = s.drive0
drive_of Drive1 s = s.drive1

abbrev pub with_drive : DriveNumber → Drive → State → State
with_drive Drive0 d s = record s { drive0 = d }
with_drive Drive1 d s = record s { drive1 = d }

-- if no drive is selected, the head is drive 0's, and there is no disc
abbrev pub drive_or_0 : Option DriveNumber → DriveNumber
drive_or_0 None = Drive0
drive_or_0 (Some number) = number

abbrev pub disc_in : Option DriveNumber → State → Option Image
disc_in None s = None
disc_in (Some number) s = (drive_of number s).disc

-- the track of the selected head
abbrev pub head_selected : State → ℕ
head_selected s = (drive_of (drive_or_0 (drive_selected s.latch)) s).head

-- the target of a command that is written now
abbrev pub target_selected : State → Target
target_selected s = record { drive = drive_selected s.latch; side = side_selected s.latch; head = head_selected s }

-- the disc in drive 0 or 1, and none for another number
abbrev pub disc_of : ℕ → State → Option Image
disc_of number s = if number == 0 then s.drive0.disc else if number == 1 then s.drive1.disc else None
