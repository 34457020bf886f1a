-- Lost data: a byte that the program does not take, or give, in its time sets lost data, and a byte
-- that it takes or gives in its time never does. (WD1770 data sheet, Status Register: lost data;
-- Type II Commands.)
use Rattle.std.specs.Prelude.{ℕ, ◌+◌, ◌*◌, ◌/◌, ◌≡◌, ◌≤◌, ◌<◌, ◌==◌, ◌&&◌, nat_lt, nat_le, Bool, true, false, List, [], ◌∷◌, ◌++◌, if◌then◌else◌}
use Rattle.std.specs.List.{list_any}
use Rattle.wd1770.specs.declared.command.Transfer.{Transfer}
use Rattle.wd1770.specs.State.{State}
use Rattle.wd1770.specs.Select.{is_reset}
use Rattle.wd1770.specs.History.{Event, microsecond, read, write, latch, history, count_steps}
use Rattle.law_chips.specs.SectorReads.{sector_steps, IsAtSector}

-- A program that lets a command continue: it reads and writes registers as it likes, but writes no
-- command, and does not reset the controller.
abbrev pub LetsGo : Event → Type 0
LetsGo microsecond = Unit {0}
LetsGo (read reg) = Unit {0}
LetsGo (write reg v) = (1 ≤ reg) × (reg ≤ 3)
LetsGo (latch v) = is_reset v ≡ false

abbrev pub AllLetGo : List Event → Type 0
AllLetGo [] = Unit {0}
AllLetGo (e ∷ events) = LetsGo e × AllLetGo events

-- the place, of 64 steps, of an access after `m` steps; a step is no access
abbrev pub place_if : Bool → ℕ → List ℕ
place_if accessed m = if accessed then m / 64 ∷ [] else []

-- The places of the accesses to the data register, after the first `m` steps.
abbrev pub accesses : ℕ → List Event → List ℕ
accesses m [] = []
accesses m (microsecond ∷ events) = accesses (m + 1) events
accesses m (read reg ∷ events) = place_if (reg == 3) m ++ accesses m events
accesses m (write reg v ∷ events) = place_if (reg == 3) m ++ accesses m events
accesses m (latch v ∷ events) = accesses m events

-- The time that a program has for byte `i`. A byte that is read comes at place 31 + i of the
-- sector, and the next one at the next place. Of the bytes that are written, byte 0 is requested at
-- place 12 and missed at place 22. Byte i + 1 is requested at place 30 + i and missed at the next.
abbrev pub is_in_time : Bool → ℕ → ℕ → Bool
is_in_time false i place = place == 31 + i
is_in_time true i place = if i == 0 then nat_le 12 place && nat_lt place 22 else place == 29 + i

-- the place that ends this time
abbrev pub time_over : Bool → ℕ → ℕ
time_over false i = 32 + i
time_over true i = if i == 0 then 22 else 30 + i

-- The time of byte `i` is over after `m` steps of the sector. That of the last byte that is read
-- never is.
pub record IsOver (writes : Bool) (i m : ℕ) : Type 0 where
  pub byte : i < (if writes then 256 else 255)
  pub over : 64 * time_over writes i ≤ m

-- The program accesses the data register in the time of byte `i`.
abbrev pub is_served : Bool → ℕ → List Event → Bool
is_served writes i events = list_any (is_in_time writes i) (accesses 0 events)

-- From the step that finds a sector on, nothing is lost if the program takes, or gives, each byte
-- in its time. If it misses one, lost data is set.
pub record LostDataIsTold : Type 0 where
  pub kept : (s : State) (t : Transfer) (k : ℕ) (events : List Event) → IsAtSector s t k → k < 10 → s.lost_data ≡ false →
      AllLetGo events → count_steps events ≤ sector_steps →
      ((i : ℕ) → IsOver t.writes i (count_steps events) → is_served t.writes i events ≡ true) →
      (history events s).lost_data ≡ false
  pub told : (s : State) (t : Transfer) (k : ℕ) (events : List Event) → IsAtSector s t k → k < 10 → s.lost_data ≡ false →
      AllLetGo events → count_steps events ≤ sector_steps →
      (i : ℕ) → IsOver t.writes i (count_steps events) → is_served t.writes i events ≡ false →
      (history events s).lost_data ≡ true
