-- Several sectors in one command. (WD1770 data sheet, Type II Commands: the multiple sector flag.)
use Rattle.std.specs.Prelude.{ℕ, ◌+◌, ◌≡◌, ◌≢◌, ◌≤◌, ◌<◌, true, false, List, [], ◌∷◌, ◌++◌, length, Some}
use Rattle.disc_image.specs.Image.{Image, has_sector, place, byte_at, sector_of, sector_bytes}
use Rattle.wd1770.specs.declared.drive.Target.{Target}
use Rattle.wd1770.specs.declared.command.Transfer.{Transfer}
use Rattle.wd1770.specs.State.{State}
use Rattle.wd1770.specs.Select.{is_single_density, disc_in}
use Rattle.wd1770.specs.Sectors.{search_of}
use Rattle.wd1770.specs.History.{Event, microsecond, read, write, latch, history, count_steps}
use Rattle.law_chips.specs.SectorReads.{sector_steps, bytes_taken}
use Rattle.law_chips.specs.SectorWrites.{AllWritten, bytes_given}
use Rattle.law_chips.specs.Searches.{AllWait, steps_to, sector_angle}
use Rattle.law_chips.specs.InTime.{IsInTime}

-- A program's events for one sector: it waits until the sector begins, and then takes, or gives,
-- its bytes.
pub record Round : Type 0 where
  pub waits : List Event
  pub serves : List Event

abbrev pub round_end : Round → State → State
round_end round s = history round.serves (history round.waits s)

abbrev pub rounds_end : List Round → State → State
rounds_end [] s = s
rounds_end (round ∷ rounds) s = rounds_end rounds (round_end round s)

-- the bytes that the program takes
abbrev pub bytes_of : List Round → State → List ℕ
bytes_of [] s = []
bytes_of (round ∷ rounds) s = bytes_taken (history round.waits s) round.serves ++ bytes_of rounds (round_end round s)

-- The program only reads registers, and takes each byte in its time.
pub record IsTimely (round : Round) (s : State) : Type 0 where
  pub wait : AllWait round.waits
  pub waited : count_steps round.waits ≡ steps_to (sector_angle s.sector) s
  pub read : AllWait round.serves
  pub count : count_steps round.serves ≡ sector_steps
  pub in_time : IsInTime false round.serves

abbrev pub AreTimely : List Round → State → Type 0
AreTimely [] s = Unit {0}
AreTimely (round ∷ rounds) s = IsTimely round s × AreTimely rounds (round_end round s)

-- the bytes of one sector for each round, from sector `k` on
abbrev pub bytes_from : Image → Target → ℕ → List Round → List ℕ
bytes_from d target k [] = []
bytes_from d target k (round ∷ rounds) = sector_bytes d target.side target.head k ++ bytes_from d target (k + 1) rounds

-- A command that reads several sectors searches for the one of the sector register, on disc `d`.
pub record IsReading (s : State) (t : Transfer) (d : Image) : Type 0 where
  pub command : s.command ≡ search_of t
  pub reads : t.writes ≡ false
  pub multiple : t.multiple ≡ true
  pub density : is_single_density s.latch ≡ true
  pub track : t.target.head ≡ s.track
  pub disc : disc_in t.target.drive s ≡ Some d
  pub on_disc : has_sector d.kind t.target.side t.target.head 0 ≡ true
  pub drq : s.drq ≡ false
  pub lost : s.lost_data ≡ false

-- The program has the bytes of all sectors, one after the other, up to the last of the track. The
-- sector register is then that of the next one, and the command searches for it.
pub record SeveralAreRead (t : Transfer) (d : Image) (rounds : List Round) (s : State) : Type 0 where
  pub bytes : bytes_of rounds s ≡ bytes_from d t.target s.sector rounds
  pub goes_on : IsReading (rounds_end rounds s) t d
  pub sector : (rounds_end rounds s).sector ≡ s.sector + length rounds

abbrev pub SectorsFollow : Type 0
SectorsFollow =
    (s : State) (t : Transfer) (d : Image) (rounds : List Round) → IsReading s t d → s.sector + length rounds ≤ 10 → AreTimely rounds s → SeveralAreRead t d rounds s

-- ---- Sectors that are written.

-- a program that reads registers, and writes only the data register
abbrev pub Gives : Event → Type 0
Gives microsecond = Unit {0}
Gives (read reg) = Unit {0}
Gives (write reg v) = reg ≡ 3
Gives (latch v) = ⊥

abbrev pub AllGive : List Event → Type 0
AllGive [] = Unit {0}
AllGive (e ∷ events) = Gives e × AllGive events

-- The program waits until the sector begins, and then gives each byte in its time.
pub record GivesInTime (round : Round) (s : State) : Type 0 where
  pub wait : AllWait round.waits
  pub waited : count_steps round.waits ≡ steps_to (sector_angle s.sector) s
  pub written : AllWritten (history round.waits s) round.serves
  pub gives : AllGive round.serves
  pub count : count_steps round.serves ≡ sector_steps
  pub in_time : IsInTime true round.serves

abbrev pub AllGiveInTime : List Round → State → Type 0
AllGiveInTime [] s = Unit {0}
AllGiveInTime (round ∷ rounds) s = GivesInTime round s × AllGiveInTime rounds (round_end round s)

-- A command that writes several sectors searches for the one of the sector register, on disc `d`.
pub record IsWriting (s : State) (t : Transfer) (d : Image) : Type 0 where
  pub command : s.command ≡ search_of t
  pub writes : t.writes ≡ true
  pub multiple : t.multiple ≡ true
  pub density : is_single_density s.latch ≡ true
  pub track : t.target.head ≡ s.track
  pub disc : disc_in t.target.drive s ≡ Some d
  pub on_disc : has_sector d.kind t.target.side t.target.head 0 ≡ true
  pub drq : s.drq ≡ false
  pub lost : s.lost_data ≡ false

-- the disc has the bytes that were given, from sector k on
abbrev pub HasAll : Image → Target → ℕ → List Round → Type 0
HasAll d target k [] = Unit {0}
HasAll d target k (round ∷ rounds) = (sector_of d target.side target.head k ≡ Some (bytes_given round.serves)) × HasAll d target (k + 1) rounds

-- place `n` is in none of `many` sectors from sector `k` on
abbrev pub IsOutside : Image → Target → ℕ → ℕ → ℕ → Type 0
IsOutside d target k many n = (j i : ℕ) → k ≤ j → j < k + many → i < 256 → n ≢ place d.kind target.side target.head j i

-- Each sector on the disc has the bytes that were given for it, and all other bytes stay.
pub record SeveralAreWritten (t : Transfer) (d : Image) (rounds : List Round) (s : State) : Type 0 where
  pub now : Image
  pub goes_on : IsWriting (rounds_end rounds s) t now
  pub sector : (rounds_end rounds s).sector ≡ s.sector + length rounds
  pub stored : HasAll now t.target s.sector rounds
  pub others : (n : ℕ) → IsOutside d t.target s.sector (length rounds) n → byte_at now n ≡ byte_at d n
  pub kind : now.kind ≡ d.kind

abbrev pub SectorsAreWritten : Type 0
SectorsAreWritten =
    (s : State) (t : Transfer) (d : Image) (rounds : List Round) → IsWriting s t d → s.sector + length rounds ≤ 10 → AllGiveInTime rounds s →
    SeveralAreWritten t d rounds s
