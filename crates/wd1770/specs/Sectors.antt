-- Type II commands: read sector and write sector. Place p passes at angle 64p, and sector k begins
-- at place 312k.
use Rattle.std.specs.Prelude.{ℕ, ◌+◌, ◌-◌, ◌*◌, ◌/◌, ◌%◌, ◌==◌, ◌&&◌, ◌||◌, nat_lt, nat_le}
use Rattle.std.specs.Prelude.{Bool, true, false, not, List, slice_index, Option, None, Some, option_map, if◌then◌else◌}
use Rattle.beeb_bits.specs.Bits.{bit}
use Rattle.disc_image.specs.Image.{Image, has_sector, sector_of, byte_put}
use Rattle.wd1770.specs.declared.drive.Drive.{Drive}
use Rattle.wd1770.specs.declared.drive.DriveNumber.{DriveNumber}
use Rattle.wd1770.specs.declared.drive.Target.{Target}
use Rattle.wd1770.specs.declared.command.Command.{Command}
use Rattle.wd1770.specs.declared.command.Command.TheVariants.{Settling, Searching, Transferring}
use Rattle.wd1770.specs.declared.command.Transfer.{Transfer}
use Rattle.wd1770.specs.State.{State}
use Rattle.wd1770.specs.Select.{is_single_density, disc_in, drive_of, with_drive, target_selected}
use Rattle.wd1770.specs.Ends.{finish_leaves, not_found}

-- 8x and 9x read, Ax and Bx write. Bit 4 selects multiple sectors. With bit 2 the search begins
-- 30,000 steps later.
abbrev pub transfer_of : ℕ → State → Transfer
transfer_of v s = record { target = target_selected s; writes = bit v 5; multiple = bit v 4 }

-- a search ends 1,000,000 steps after its first step
abbrev pub search_of : Transfer → Command
search_of t = Searching t 1000001

abbrev pub sectors_of : ℕ → State → Command
sectors_of v s = if bit v 2 then Settling (transfer_of v s) 30000 else search_of (transfer_of v s)

abbrev pub settle_step : Transfer → ℕ → State → State
settle_step t left s = record s { command = if nat_lt 1 left then Settling t (left - 1) else search_of t }

-- A disc in the drive has sector k on the target's side and on the head's track.
abbrev pub is_on_disc : Option Image → Target → ℕ → Bool
is_on_disc None target k = false
is_on_disc (Some d) target k = has_sector d.kind target.side target.head k

-- A search finds the sector of the sector register at its place, if it is on the disc, in single
-- density. The track register must be the head's track.
abbrev pub is_found : Target → ℕ → State → Bool
is_found target angle s =
    is_single_density s.latch && (target.head == s.track) && (angle == 64 * (312 * s.sector)) && is_on_disc (disc_in target.drive s) target s.sector

-- One step of a search that has `left` steps left.
abbrev pub search_step : Transfer → ℕ → ℕ → State → State
search_step t left angle s =
    if is_found t.target angle s then record s { command = Transferring t s.sector }
    else if nat_lt 1 left then record s { command = Searching t (left - 1) }
    else not_found s

-- the place that passes at the angle, counted from the beginning of sector k, if one passes
abbrev pub places_into : ℕ → ℕ → Option ℕ
places_into k angle = if angle % 64 == 0 then Some (angle / 64 - 312 * k) else None

-- one of the 256 places from `first` on
abbrev pub is_byte_place : ℕ → ℕ → Bool
is_byte_place first place = nat_le first place && nat_lt place (first + 256)

-- The end of a sector. With bit 4 the sector register goes up by one, and the search begins again
-- at the next step.
abbrev pub sector_ended : Transfer → State → State
sector_ended t s = if t.multiple then record s { sector = (s.sector + 1) % 256; command = search_of t } else finish_leaves s

-- Reading. A byte reaches the data register. Lost data becomes set if DRQ is still set, and then
-- DRQ becomes set.
abbrev pub byte_came : ℕ → State → State
byte_came v s = record s { byte = v; lost_data = s.lost_data || s.drq; drq = true }

abbrev pub byte_of_sector : Option (List ℕ) → ℕ → ℕ
byte_of_sector None at = 0
byte_of_sector (Some bytes) at = slice_index bytes at

abbrev pub byte_on_disc : Option Image → Target → ℕ → ℕ → ℕ
byte_on_disc None target k at = 0
byte_on_disc (Some d) target k at = byte_of_sector (sector_of d target.side target.head k) at

-- Byte i is read at place 31 + i of the sector, and the sector ends at place 288.
abbrev pub reading_at : Transfer → ℕ → Option ℕ → State → State
reading_at t k None s = s
reading_at t k (Some place) s =
    if is_byte_place 31 place then byte_came (byte_on_disc (disc_in t.target.drive s) t.target k (place - 31)) s
    else if place == 288 then sector_ended t s
    else s

-- Writing. A byte of the sector on the disc becomes v.
abbrev pub disc_written : Target → ℕ → ℕ → ℕ → Drive → Drive
disc_written target k at v d = record d { disc = option_map (byte_put target.side target.head k at v) d.disc }

abbrev pub written_in : Option DriveNumber → Target → ℕ → ℕ → ℕ → State → State
written_in None target k at v s = s
written_in (Some number) target k at v s = with_drive number (disc_written target k at v (drive_of number s)) s

-- The byte is the data register, or 00 with lost data if DRQ is still set. DRQ becomes set, except
-- after byte 255.
abbrev pub byte_written : Target → ℕ → ℕ → State → State
byte_written target k at s = record (written_in target.drive target k at (if s.drq then 0 else s.byte) s) {
  lost_data = s.lost_data || s.drq;
  drq = s.drq || not (at == 255);
}

-- DRQ becomes set at place 12 of the sector. If it is still set at place 22, lost data becomes set
-- and the command ends. Byte i is written at place 30 + i, and the sector ends at place 288.
abbrev pub writing_at : Transfer → ℕ → Option ℕ → State → State
writing_at t k None s = s
writing_at t k (Some place) s =
    if place == 12 then record s { drq = true }
    else if (place == 22) && s.drq then finish_leaves (record s { lost_data = true })
    else if is_byte_place 30 place then byte_written t.target k (place - 30) s
    else if place == 288 then sector_ended t s
    else s

-- One step at sector k.
abbrev pub transfer_step : Transfer → ℕ → ℕ → State → State
transfer_step t k angle s = if t.writes then writing_at t k (places_into k angle) s else reading_at t k (places_into k angle) s
