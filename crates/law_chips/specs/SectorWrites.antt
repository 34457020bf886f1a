-- A sector that is written byte by byte, by a program that answers each DRQ in time. (WD1770 data
-- sheet, Type II Commands: write sector.)
use Rattle.std.specs.Prelude.{ℕ, ◌≡◌, ◌≢◌, ◌≤◌, ◌<◌, ◌==◌, true, false, List, [], ◌∷◌, ◌++◌, Some, if◌then◌else◌}
use Rattle.disc_image.specs.Image.{Image, has_sector, place, byte_at, sector_of}
use Rattle.wd1770.specs.declared.command.Transfer.{Transfer}
use Rattle.wd1770.specs.State.{State}
use Rattle.wd1770.specs.Select.{is_reset, disc_in}
use Rattle.wd1770.specs.History.{Event, microsecond, read, write, latch, happens, history, count_steps}
use Rattle.law_chips.specs.SectorReads.{sector_steps, IsAtSector, command_behind}

-- A program that writes a sector: it writes the data register only while DRQ is set, and does not
-- read it. It writes no command, and does not reset the controller.
abbrev pub Writes : State → Event → Type 0
Writes s microsecond = Unit {0}
Writes s (read reg) = reg ≤ 2
Writes s (write reg v) = (1 ≤ reg) × (reg ≤ 3) × (reg ≡ 3 → s.drq ≡ true)
Writes s (latch v) = is_reset v ≡ false

abbrev pub AllWritten : State → List Event → Type 0
AllWritten s [] = Unit {0}
AllWritten s (e ∷ events) = Writes s e × AllWritten (happens e s) events

-- the bytes that a program gives: those that it writes to the data register
abbrev pub given_by : Event → List ℕ
given_by microsecond = []
given_by (read reg) = []
given_by (write reg v) = if reg == 3 then v ∷ [] else []
given_by (latch v) = []

abbrev pub bytes_given : List Event → List ℕ
bytes_given [] = []
bytes_given (e ∷ events) = given_by e ++ bytes_given events

-- The disc in the selected drive has `bytes` in the sector, and all its other bytes as `d` has
-- them.
pub record IsStored (d : Image) (t : Transfer) (k : ℕ) (bytes : List ℕ) (s : State) : Type 0 where
  pub now : Image
  pub disc : disc_in t.target.drive s ≡ Some now
  pub sector : sector_of now t.target.side t.target.head k ≡ Some bytes
  pub others : (n : ℕ) → ((at : ℕ) → at < 256 → n ≢ place d.kind t.target.side t.target.head k at) → byte_at now n ≡ byte_at d n

-- If lost data is clear at the sector's end, the bytes that the program gave are the sector's on
-- the disc, all 256 in order. All others of the disc stay, and the command is over.
pub record SectorIsWritten : Type 0 where
  pub stored : (s : State) (t : Transfer) (k : ℕ) (d : Image) (events : List Event) →
      IsAtSector s t k → disc_in t.target.drive s ≡ Some d → has_sector d.kind t.target.side t.target.head k ≡ true → t.writes ≡ true →
      AllWritten s events → count_steps events ≡ sector_steps → (history events s).lost_data ≡ false →
      IsStored d t k (bytes_given events) (history events s)
  pub end : (s : State) (t : Transfer) (k : ℕ) (d : Image) (events : List Event) →
      IsAtSector s t k → disc_in t.target.drive s ≡ Some d → has_sector d.kind t.target.side t.target.head k ≡ true → t.writes ≡ true →
      AllWritten s events → count_steps events ≡ sector_steps → (history events s).lost_data ≡ false →
      (history events s).command ≡ command_behind t
