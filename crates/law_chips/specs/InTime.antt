-- Sectors read and written by a program that is in time. Lost data plays no part. (WD1770 data
-- sheet, Type II Commands.)
use Rattle.std.specs.Prelude.{ℕ, ◌≡◌, ◌≤◌, ◌<◌, Bool, true, false, List, Some, if◌then◌else◌}
use Rattle.beeb_bits.specs.Bits.{bit}
use Rattle.disc_image.specs.Image.{Image, has_sector}
use Rattle.wd1770.specs.declared.command.Command.TheVariants.{Idle}
use Rattle.wd1770.specs.declared.command.Transfer.{Transfer}
use Rattle.wd1770.specs.State.{State}
use Rattle.wd1770.specs.Select.{is_reset, disc_in}
use Rattle.wd1770.specs.Sectors.{transfer_of, search_of}
use Rattle.wd1770.specs.Registers.{write_leaves}
use Rattle.wd1770.specs.History.{Event, history, count_steps}
use Rattle.law_chips.specs.SectorReads.{sector_steps, AllRead, bytes_taken, IsAtSector, HasBytes, command_behind}
use Rattle.law_chips.specs.SectorWrites.{AllWritten, bytes_given, IsStored}
use Rattle.law_chips.specs.Searches.{AllWait, steps_to, sector_angle, has_match}
use Rattle.law_chips.specs.LostData.{is_served}

-- The program takes, or gives, each of the 256 bytes in its time.
abbrev pub IsInTime : Bool → List Event → Type 0
IsInTime writes events = (i : ℕ) → i < 256 → is_served writes i events ≡ true

-- If bit 2 is set, the steps for which the head settles before the search.
abbrev pub settle_time : ℕ → ℕ
settle_time v = if bit v 2 then 30000 else 0

-- A command is written while none is in progress. The program waits while the head settles, and
-- then until the sector begins whose number is in the sector register. The track has this sector.
pub record IsFound (s : State) (v : ℕ) (settles waits : List Event) : Type 0 where
  pub idle : s.command ≡ Idle
  pub live : is_reset s.latch ≡ false
  pub has : has_match (transfer_of v s) s ≡ true
  pub settle : AllWait settles
  pub settled : count_steps settles ≡ settle_time v
  pub wait : AllWait waits
  pub waited : count_steps waits ≡ steps_to (sector_angle s.sector) (history settles (write_leaves 0 v s))

-- the state after the step that begins the sector
abbrev pub found_after : ℕ → List Event → List Event → State → State
found_after v settles waits s = history waits (history settles (write_leaves 0 v s))

-- A program that takes each byte in its time has the sector's 256 bytes, in order, and no byte
-- waits. This holds from the sector's beginning, and from the write of 8x or 9x.
pub record ReadsInTime : Type 0 where
  pub whole : (s : State) (t : Transfer) (k : ℕ) (d : Image) (bytes : List ℕ) (events : List Event) →
      IsAtSector s t k → HasBytes s t k d bytes → t.writes ≡ false → s.lost_data ≡ false →
      AllRead events → count_steps events ≡ sector_steps → IsInTime false events →
      bytes_taken s events ≡ bytes
  pub commanded : (s : State) (v : ℕ) (d : Image) (bytes : List ℕ) (settles waits reads : List Event) →
      0x80 ≤ v → v < 0xA0 → IsFound s v settles waits → HasBytes s (transfer_of v s) s.sector d bytes →
      AllRead reads → count_steps reads ≡ sector_steps → IsInTime false reads →
      bytes_taken (found_after v settles waits s) reads ≡ bytes
  -- 8x is then over, and 9x searches for the next sector.
  pub ends : (s : State) (v : ℕ) (d : Image) (bytes : List ℕ) (settles waits reads : List Event) →
      0x80 ≤ v → v < 0x90 → IsFound s v settles waits → HasBytes s (transfer_of v s) s.sector d bytes →
      AllRead reads → count_steps reads ≡ sector_steps →
      (history reads (found_after v settles waits s)).command ≡ Idle
  pub goes_on : (s : State) (v : ℕ) (d : Image) (bytes : List ℕ) (settles waits reads : List Event) →
      0x90 ≤ v → v < 0xA0 → IsFound s v settles waits → HasBytes s (transfer_of v s) s.sector d bytes →
      AllRead reads → count_steps reads ≡ sector_steps →
      (history reads (found_after v settles waits s)).command ≡ search_of (transfer_of v s)

-- If a program gives each byte in its time, these bytes are the sector's, and all others of the
-- disc stay. This holds from the sector's beginning, and from the write of Ax or Bx.
pub record WritesInTime : Type 0 where
  pub whole : (s : State) (t : Transfer) (k : ℕ) (d : Image) (events : List Event) →
      IsAtSector s t k → disc_in t.target.drive s ≡ Some d → has_sector d.kind t.target.side t.target.head k ≡ true → t.writes ≡ true → s.lost_data ≡ false →
      AllWritten s events → count_steps events ≡ sector_steps → IsInTime true events →
      IsStored d t k (bytes_given events) (history events s) × ((history events s).command ≡ command_behind t)
  pub commanded : (s : State) (v : ℕ) (d : Image) (settles waits writes : List Event) →
      0xA0 ≤ v → v < 0xC0 → IsFound s v settles waits → disc_in (transfer_of v s).target.drive s ≡ Some d →
      AllWritten (found_after v settles waits s) writes → count_steps writes ≡ sector_steps → IsInTime true writes →
      IsStored d (transfer_of v s) s.sector (bytes_given writes) (history writes (found_after v settles waits s))
  -- Ax is then over, and Bx searches for the next sector.
  pub ends : (s : State) (v : ℕ) (d : Image) (settles waits writes : List Event) →
      0xA0 ≤ v → v < 0xB0 → IsFound s v settles waits → disc_in (transfer_of v s).target.drive s ≡ Some d →
      AllWritten (found_after v settles waits s) writes → count_steps writes ≡ sector_steps → IsInTime true writes →
      (history writes (found_after v settles waits s)).command ≡ Idle
  pub goes_on : (s : State) (v : ℕ) (d : Image) (settles waits writes : List Event) →
      0xB0 ≤ v → v < 0xC0 → IsFound s v settles waits → disc_in (transfer_of v s).target.drive s ≡ Some d →
      AllWritten (found_after v settles waits s) writes → count_steps writes ≡ sector_steps → IsInTime true writes →
      (history writes (found_after v settles waits s)).command ≡ search_of (transfer_of v s)
