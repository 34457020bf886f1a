-- Cx, read address.
use Rattle.std.specs.Prelude.{ℕ, ◌-◌, ◌*◌, ◌/◌, ◌%◌, ◌==◌, ◌&&◌, nat_lt, nat_le, Bool, List, [], ◌∷◌, slice_index, Option, None, Some, if◌then◌else◌}
use Rattle.wd1770.specs.declared.drive.Target.{Target}
use Rattle.wd1770.specs.declared.command.Command.{Command}
use Rattle.wd1770.specs.declared.command.Command.TheVariants.{SeekingAddress, GivingAddress}
use Rattle.wd1770.specs.State.{State}
use Rattle.wd1770.specs.Select.{is_single_density, disc_in, target_selected}
use Rattle.wd1770.specs.Ends.{finish_leaves, not_found}
use Rattle.wd1770.specs.Sectors.{is_on_disc, places_into, byte_came}

-- the command ends 1,000,000 steps after its writing if no sector is found
abbrev pub address_of : State → Command
address_of s = SeekingAddress (target_selected s) 1000000

-- A sector k begins at the angle, at place 312k. It is on the disc, and single density is selected.
abbrev pub is_address : Target → ℕ → State → Bool
is_address target angle s =
    is_single_density s.latch && (angle % (64 * 312) == 0) && is_on_disc (disc_in target.drive s) target (angle / (64 * 312))

abbrev pub address_search_step : Target → ℕ → ℕ → State → State
address_search_step target left angle s =
    if is_address target angle s then record s { command = GivingAddress target (angle / (64 * 312)) }
    else if nat_lt 1 left then record s { command = SeekingAddress target (left - 1) }
    else not_found s

-- the ID field: track, side, sector, the code of the sector length, and two CRC bytes, here 00
abbrev pub address_bytes : Target → ℕ → List ℕ
address_bytes target k = target.head ∷ target.side ∷ k ∷ 1 ∷ 0 ∷ 0 ∷ []

-- The six bytes come at places 7 to 12 of the sector. The command ends at place 14, and the sector
-- register becomes the track.
abbrev pub address_at : Target → ℕ → Option ℕ → State → State
address_at target k None s = s
address_at target k (Some place) s =
    if nat_le 7 place && nat_le place 12 then byte_came (slice_index (address_bytes target k) (place - 7)) s
    else if place == 14 then finish_leaves (record s { sector = target.head })
    else s

-- One step at sector k.
abbrev pub address_step : Target → ℕ → ℕ → State → State
address_step target k angle s = address_at target k (places_into k angle) s
