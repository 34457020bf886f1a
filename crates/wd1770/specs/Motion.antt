-- Type I commands: restore, seek, step, step-in and step-out. The heads stay at tracks 0 to 83.
use Rattle.std.specs.Prelude.{ℕ, ◌+◌, ◌-◌, ◌*◌, ◌%◌, ◌==◌, ◌&&◌, ◌||◌, nat_lt, min, max, Bool, true, false, not, if◌then◌else◌}
use Rattle.beeb_bits.specs.Bits.{bit}
use Rattle.wd1770.specs.declared.command.Command.{Command}
use Rattle.wd1770.specs.declared.command.Command.TheVariants.{Moving}
use Rattle.wd1770.specs.declared.command.Motion.{Motion}
use Rattle.wd1770.specs.declared.command.TrackChange.{TrackChange}
use Rattle.wd1770.specs.declared.command.TrackChange.TheVariants.{Stays, Follows, Becomes}
use Rattle.wd1770.specs.State.{State}
use Rattle.wd1770.specs.Select.{drive_selected, drive_or_0, drive_of, with_drive, head_selected}
use Rattle.wd1770.specs.Ends.{finish_leaves}

-- the microseconds of a step, by bits 1 and 0, the stepping rate
abbrev pub step_time : ℕ → ℕ
step_time v = if v % 4 == 0 then 6000 else if v % 4 == 1 then 12000 else if v % 4 == 2 then 20000 else 30000

-- Steps of the selected head in a direction. They take their whole time, but at least one
-- microsecond. Bit 2 requests verification.
abbrev pub head_motion : ℕ → ℕ → Bool → TrackChange → State → Command
head_motion v steps inward track s =
    Moving (record { drive = drive_or_0 (drive_selected s.latch); steps = steps; inward = inward; track = track; verifies = bit v 2 }) (max 1 (steps * step_time v))

-- 0x, restore: to track 0
abbrev pub restore : ℕ → State → Command
restore v s = head_motion v (head_selected s) false (Becomes 0) s

-- the difference of two numbers
abbrev pub difference : ℕ → ℕ → ℕ
difference a b = max a b - min a b

-- 1x, seek: the difference of the data and track registers is the number of steps, and gives their
-- direction
abbrev pub seek : ℕ → State → Command
seek v s = head_motion v (difference s.byte s.track) (nat_lt s.track s.byte) (Becomes s.byte) s

-- 2x to 7x: one step. The track register follows it if bit 4 is set.
abbrev pub step_once : ℕ → Bool → State → Command
step_once v inward s = head_motion v 1 inward (if bit v 4 then Follows else Stays) s

-- 2x and 3x step in the last direction, 4x and 5x inward, 6x and 7x outward
abbrev pub motion_of : ℕ → State → Command
motion_of v s =
    if nat_lt v 0x10 then restore v s
    else if nat_lt v 0x20 then seek v s
    else if nat_lt v 0x40 then step_once v s.last_inward s
    else if nat_lt v 0x60 then step_once v true s
    else step_once v false s

-- The end: the head moves, and the track register changes.
abbrev pub head_after : Motion → State → ℕ
head_after m s = if m.inward then min 83 ((drive_of m.drive s).head + m.steps) else (drive_of m.drive s).head - m.steps

abbrev pub track_changed : TrackChange → Bool → ℕ → ℕ
track_changed Stays inward track = track
track_changed Follows inward track = if inward then (track + 1) % 256 else (track + 255) % 256
track_changed (Becomes v) inward track = v

abbrev pub track_after : Motion → State → ℕ
track_after m s = track_changed m.track m.inward s.track

-- Verification sets record not found if the track register differs from the head's track. The last
-- direction changes if there was a step.
abbrev pub move_leaves : Motion → State → State
move_leaves m s = finish_leaves (record (with_drive m.drive (record (drive_of m.drive s) { head = head_after m s }) s) {
  track = track_after m s;
  last_inward = if m.steps == 0 then s.last_inward else m.inward;
  record_not_found = s.record_not_found || (m.verifies && not (track_after m s == head_after m s));
})

-- One step of the motion's time.
abbrev pub motion_step : Motion → ℕ → State → State
motion_step m left s = if nat_lt 1 left then record s { command = Moving m (left - 1) } else move_leaves m s
