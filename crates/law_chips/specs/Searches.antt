-- The duration of a search for a sector. (WD1770 data sheet, Type II Commands; the angles and times
-- of the sectors are this project's profile.)
use Rattle.std.specs.Prelude.{ℕ, ◌+◌, ◌-◌, ◌*◌, ◌%◌, ◌≡◌, ◌≤◌, ◌<◌, ◌==◌, ◌&&◌, ◌⊎◌, not, Bool, true, false, List, [], ◌∷◌}
use Rattle.wd1770.specs.declared.command.Command.TheVariants.{Idle, Searching}
use Rattle.wd1770.specs.declared.command.Transfer.{Transfer}
use Rattle.wd1770.specs.State.{State}
use Rattle.wd1770.specs.Select.{is_single_density, disc_in}
use Rattle.wd1770.specs.Sectors.{is_on_disc}
use Rattle.wd1770.specs.Step.{next_angle, step}
use Rattle.wd1770.specs.History.{Event, microsecond, read, write, latch, history, count_steps}
use Rattle.law_chips.specs.SectorReads.{IsAtSector}
use Rattle.law_chips.specs.LostData.{AllLetGo}
use Rattle.law_chips.specs.Interrupts.{status_is_read}

-- A program that waits reads registers between steps, and writes none.
abbrev pub Waits : Event → Type 0
Waits microsecond = Unit {0}
Waits (read reg) = Unit {0}
Waits (write reg v) = ⊥
Waits (latch v) = ⊥

abbrev pub AllWait : List Event → Type 0
AllWait [] = Unit {0}
AllWait (e ∷ events) = Waits e × AllWait events

-- the number of steps up to and with the next one at `angle`: 200,000 make a turn
abbrev pub steps_to : ℕ → State → ℕ
steps_to angle s = (angle + 200000 - next_angle s.angle) % 200000 + 1

-- the angle of the beginning of sector `k`
abbrev pub sector_angle : ℕ → ℕ
sector_angle k = 64 * (312 * k)

-- There is a sector for the search: it is on the disc, single density is selected, and the track
-- register is the head's track.
abbrev pub has_match : Transfer → State → Bool
has_match t s = is_single_density s.latch && ((t.target.head == s.track) && is_on_disc (disc_in t.target.drive s) t.target s.sector)

-- No sector begins in the `left` steps: there is no match, or it begins later.
abbrev pub ComesNot : Transfer → ℕ → State → Type 0
ComesNot t left s = (has_match t s ≡ false) ⊎ (left < steps_to (sector_angle s.sector) s)

-- If its sector begins in the time that is left, the search ends at this step, and not before. The
-- disc, lost data and the sector register stay as they are. Any other search ends when its time is
-- over, with record not found, and with INTRQ until the status is read.
pub record SearchEnds : Type 0 where
  pub goes_on : (s : State) (t : Transfer) (left : ℕ) (events : List Event) →
      s.command ≡ Searching t left → steps_to (sector_angle s.sector) s ≤ left → has_match t s ≡ true → AllWait events →
      count_steps events < steps_to (sector_angle s.sector) s →
      (history events s).command ≡ Searching t (left - count_steps events)
  pub found : (s : State) (t : Transfer) (left : ℕ) (events : List Event) →
      s.command ≡ Searching t left → steps_to (sector_angle s.sector) s ≤ left → has_match t s ≡ true → s.drq ≡ false → AllWait events →
      count_steps events ≡ steps_to (sector_angle s.sector) s →
      IsAtSector (history events s) t s.sector × (disc_in t.target.drive (history events s) ≡ disc_in t.target.drive s)
      × ((history events s).lost_data ≡ s.lost_data) × ((history events s).sector ≡ s.sector)
  pub waits : (s : State) (t : Transfer) (left : ℕ) (events : List Event) →
      s.command ≡ Searching t left → ComesNot t left s → AllWait events → count_steps events < left →
      (history events s).command ≡ Searching t (left - count_steps events)
  pub not_found : (s : State) (t : Transfer) (left : ℕ) (events : List Event) →
      s.command ≡ Searching t left → 0 < left → ComesNot t left s → AllWait events → count_steps events ≡ left →
      ((history events s).command ≡ Idle) × ((history events s).record_not_found ≡ true)
  pub asks : (s : State) (t : Transfer) (left : ℕ) (waits others : List Event) →
      s.command ≡ Searching t left → ComesNot t left s → AllWait waits → count_steps waits + 1 ≡ left → AllLetGo others →
      (history others (step (history waits s))).intrq ≡ not (status_is_read others)
