-- A sector that is read byte by byte, by a program that answers each DRQ in time. (WD1770 data
-- sheet, Type II Commands: read sector.)
use Rattle.std.specs.Prelude.{ℕ, ◌-◌, ◌*◌, ◌/◌, ◌≡◌, ◌≤◌, ◌==◌, ◌&&◌, min, false, List, [], ◌∷◌, ◌++◌, take, Some, if◌then◌else◌}
use Rattle.disc_image.specs.Image.{Image, sector_of}
use Rattle.wd1770.specs.declared.command.Command.{Command}
use Rattle.wd1770.specs.declared.command.Command.TheVariants.{Idle, Transferring}
use Rattle.wd1770.specs.declared.command.Transfer.{Transfer}
use Rattle.wd1770.specs.State.{State}
use Rattle.wd1770.specs.Select.{is_reset, disc_in}
use Rattle.wd1770.specs.Sectors.{search_of}
use Rattle.wd1770.specs.Registers.{answer_of}
use Rattle.wd1770.specs.History.{Event, microsecond, read, write, latch, happens, history, count_steps}

-- The steps of a sector, from the one that finds it to its end: 288 places of 64 steps.
abbrev pub sector_steps : ℕ
sector_steps = 18432

-- The number of bytes that have come `m` steps after the sector was found. Byte `i` comes 31 + i
-- places after that.
abbrev pub bytes_come : ℕ → ℕ
bytes_come m = min 256 (m / 64 - 30)

-- A program that reads a sector: it reads registers as it likes, but writes neither a command nor
-- the data register, and does not reset the controller.
abbrev pub Reads : Event → Type 0
Reads microsecond = Unit {0}
Reads (read reg) = Unit {0}
Reads (write reg v) = (1 ≤ reg) × (reg ≤ 2)
Reads (latch v) = is_reset v ≡ false

abbrev pub AllRead : List Event → Type 0
AllRead [] = Unit {0}
AllRead (e ∷ events) = Reads e × AllRead events

-- the byte that a program takes: it reads the data register while DRQ is set
abbrev pub taken_by : State → Event → List ℕ
taken_by s microsecond = []
taken_by s (read reg) = if (reg == 3) && s.drq then answer_of reg s ∷ [] else []
taken_by s (write reg v) = []
taken_by s (latch v) = []

abbrev pub bytes_taken : State → List Event → List ℕ
bytes_taken s [] = []
bytes_taken s (e ∷ events) = taken_by s e ++ bytes_taken (happens e s) events

-- the byte that waits to be taken
abbrev pub waiting_byte : State → List ℕ
waiting_byte s = if s.drq then s.byte ∷ [] else []

-- Sector `k` has just been found, and its bytes are next.
pub record IsAtSector (s : State) (t : Transfer) (k : ℕ) : Type 0 where
  pub command : s.command ≡ Transferring t k
  pub angle : s.angle ≡ Some (64 * (312 * k))
  pub drq : s.drq ≡ false

-- The sector has `bytes` on the disc in the selected drive.
pub record HasBytes (s : State) (t : Transfer) (k : ℕ) (d : Image) (bytes : List ℕ) : Type 0 where
  pub disc : disc_in t.target.drive s ≡ Some d
  pub sector : sector_of d t.target.side t.target.head k ≡ Some bytes

-- the command after a sector: the search for the next one if the command is for multiple sectors,
-- otherwise none
abbrev pub command_behind : Transfer → Command
command_behind t = if t.multiple then search_of t else Idle

-- While lost data is clear, the bytes that the program took, followed by the waiting one, are those
-- of the disc that have come, in order. At the end, 288 places after the beginning, they are all
-- 256.
pub record SectorIsRead : Type 0 where
  pub so_far : (s : State) (t : Transfer) (k : ℕ) (d : Image) (bytes : List ℕ) (events : List Event) →
      IsAtSector s t k → HasBytes s t k d bytes → t.writes ≡ false → AllRead events → count_steps events ≤ sector_steps →
      (history events s).lost_data ≡ false →
      bytes_taken s events ++ waiting_byte (history events s) ≡ take (bytes_come (count_steps events)) bytes
  pub whole : (s : State) (t : Transfer) (k : ℕ) (d : Image) (bytes : List ℕ) (events : List Event) →
      IsAtSector s t k → HasBytes s t k d bytes → t.writes ≡ false → AllRead events → count_steps events ≡ sector_steps →
      (history events s).lost_data ≡ false →
      bytes_taken s events ++ waiting_byte (history events s) ≡ bytes
  pub end : (s : State) (t : Transfer) (k : ℕ) (d : Image) (bytes : List ℕ) (events : List Event) →
      IsAtSector s t k → HasBytes s t k d bytes → t.writes ≡ false → AllRead events → count_steps events ≡ sector_steps →
      (history events s).command ≡ command_behind t
