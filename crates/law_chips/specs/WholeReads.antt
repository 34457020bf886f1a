-- A read of a sector from the beginning of its search on. (WD1770 data sheet, Type II Commands:
-- read sector.)
use Rattle.std.specs.Prelude.{ℕ, ◌≡◌, ◌++◌, true, false, List}
use Rattle.disc_image.specs.Image.{Image}
use Rattle.wd1770.specs.declared.command.Transfer.{Transfer}
use Rattle.wd1770.specs.State.{State}
use Rattle.wd1770.specs.Sectors.{search_of}
use Rattle.wd1770.specs.History.{Event, history, count_steps}
use Rattle.law_chips.specs.SectorReads.{sector_steps, AllRead, bytes_taken, waiting_byte, HasBytes}
use Rattle.law_chips.specs.Searches.{AllWait, steps_to, sector_angle, has_match}

-- A program waits until the sector is found, at most one turn, and then reads for the 288 places of
-- a sector. If it loses nothing, it has the sector's 256 bytes, in order.
abbrev pub SearchedAndRead : Type 0
SearchedAndRead =
    (s : State) (t : Transfer) (d : Image) (bytes : List ℕ) (waits reads : List Event) →
    s.command ≡ search_of t → t.writes ≡ false → has_match t s ≡ true → s.drq ≡ false → HasBytes s t s.sector d bytes →
    AllWait waits → count_steps waits ≡ steps_to (sector_angle s.sector) s → AllRead reads → count_steps reads ≡ sector_steps →
    (history reads (history waits s)).lost_data ≡ false →
    bytes_taken (history waits s) reads ++ waiting_byte (history reads (history waits s)) ≡ bytes
