-- The WD1770 with its two drives and the latch beside it. (WD1770 data sheet. All places, gaps and
-- times are this project's profile.)
use Rattle.std.specs.Prelude.{ℕ, Bool, true, false, Option, None}
use Rattle.disc_image.specs.Image.{Image}
use Rattle.wd1770.specs.declared.drive.Drive.{Drive}
use Rattle.wd1770.specs.declared.command.Command.{Command}
use Rattle.wd1770.specs.declared.command.Command.TheVariants.{Idle}

pub record State : Type 0 where
  -- the track, sector and data registers
  pub track : ℕ
  pub sector : ℕ
  pub byte : ℕ
  -- the disc latch
  pub latch : ℕ
  -- the angle of the discs at the last step; none before the first
  pub angle : Option ℕ
  pub drive0 : Drive
  pub drive1 : Drive
  pub command : Command
  -- the last step of a head was inward
  pub last_inward : Bool
  -- the status is that of a type I command
  pub type_one : Bool
  pub record_not_found : Bool
  pub lost_data : Bool
  pub drq : Bool
  pub intrq : Bool
  -- if no command is in progress, the number of steps before the motor goes off
  pub motor : ℕ
  -- the number of rises of "DRQ or INTRQ", mod 2^64
  pub nmis : ℕ

-- At power-on the latch is 00, both heads are at track 0 and the last direction is inward.
abbrev pub power_on : Option Image → Option Image → State
power_on d0 d1 = record {
  track = 0;
  sector = 0;
  byte = 0;
  latch = 0;
  angle = None;
  drive0 = record { head = 0; disc = d0 };
  drive1 = record { head = 0; disc = d1 };
  command = Idle;
  last_inward = true;
  type_one = true;
  record_not_found = false;
  lost_data = false;
  drq = false;
  intrq = false;
  motor = 0;
  nmis = 0;
}
