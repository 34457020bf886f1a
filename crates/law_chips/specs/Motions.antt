-- Type I commands from their write to their end: the track of the head, the track register, and the
-- result of verification. (WD1770 data sheet, Type I Commands: restore, seek, step, step-in and
-- step-out.)
use Rattle.std.specs.Prelude.{ℕ, ◌+◌, ◌-◌, ◌*◌, ◌%◌, ◌≡◌, ◌≤◌, ◌<◌, ◌==◌, ◌&&◌, nat_lt, min, max, not, Bool, true, false, List, if◌then◌else◌}
use Rattle.beeb_bits.specs.Bits.{bit}
use Rattle.wd1770.specs.declared.command.Command.TheVariants.{Idle}
use Rattle.wd1770.specs.State.{State}
use Rattle.wd1770.specs.Select.{is_reset, head_selected}
use Rattle.wd1770.specs.Ends.{is_busy, is_motor_on}
use Rattle.wd1770.specs.Motion.{step_time}
use Rattle.wd1770.specs.Registers.{write_leaves}
use Rattle.wd1770.specs.Step.{step}
use Rattle.wd1770.specs.History.{Event, history, count_steps}
use Rattle.law_chips.specs.Searches.{AllWait}

-- Type I commands are 0x to 7x. The number of steps of the head: for restore its distance from
-- track 0, for seek the difference between data and track register, otherwise one.
abbrev pub head_steps : ℕ → State → ℕ
head_steps v s =
    if nat_lt v 0x10 then head_selected s
    else if nat_lt v 0x20 then max s.byte s.track - min s.byte s.track
    else 1

-- the whole time of these steps, at least one microsecond
abbrev pub motion_time : ℕ → State → ℕ
motion_time v s = max 1 (head_steps v s * step_time v)

-- The head after `n` steps in a direction, from track 0 to 83.
abbrev pub head_moved : Bool → ℕ → ℕ → ℕ
head_moved inward n head = if inward then min 83 (head + n) else head - n

-- the track register after it counts a step
abbrev pub track_counted : Bool → ℕ → ℕ
track_counted inward track = if inward then (track + 1) % 256 else (track + 255) % 256

-- A command is written while none is in progress, and then the program waits.
pub record IsGiven (s : State) (waits : List Event) : Type 0 where
  pub idle : s.command ≡ Idle
  pub live : is_reset s.latch ≡ false
  pub wait : AllWait waits

-- the state after the waiting and one further step
abbrev pub ended_after : ℕ → List Event → State → State
ended_after v waits s = step (history waits (write_leaves 0 v s))

-- The command is over, with INTRQ set. The selected head is at track `there`, and the track
-- register has this value. If bit 2 requests verification, seek error (record not found) is set if
-- the two differ. The motor stays on for 2,000,000 further steps.
pub record Arrives (v there value : ℕ) (s : State) : Type 0 where
  pub over : s.command ≡ Idle
  pub asks : s.intrq ≡ true
  pub head : head_selected s ≡ there
  pub track : s.track ≡ value
  pub seek_error : s.record_not_found ≡ (bit v 2 && not (value == there))
  pub motor : (others : List Event) → AllWait others → is_motor_on (history others s) ≡ nat_lt (count_steps others) 2000000

pub record MotionsArrive : Type 0 where
  -- Until its time is over the command is busy, and the head and the track register are where they
  -- were.
  pub until : (s : State) (v : ℕ) (waits : List Event) → v < 0x80 → IsGiven s waits → count_steps waits < motion_time v s →
      (is_busy (history waits (write_leaves 0 v s)).command ≡ true)
      × (head_selected (history waits (write_leaves 0 v s)) ≡ head_selected s)
      × ((history waits (write_leaves 0 v s)).track ≡ s.track)
  -- restore: to track 0, with the track register 0
  pub restore : (s : State) (v : ℕ) (waits : List Event) → v < 0x10 → IsGiven s waits → count_steps waits + 1 ≡ motion_time v s →
      Arrives v 0 0 (ended_after v waits s)
  -- seek: the head moves by the change of the track register, which becomes the data register
  pub seek : (s : State) (v : ℕ) (waits : List Event) → 0x10 ≤ v → v < 0x20 → IsGiven s waits → count_steps waits + 1 ≡ motion_time v s →
      Arrives v (head_moved (nat_lt s.track s.byte) (head_steps v s) (head_selected s)) s.byte (ended_after v waits s)
  -- The last direction is that of the steps, if there is one: restore steps outward, and seek
  -- toward the track of the data register.
  pub restore_way : (s : State) (v : ℕ) (waits : List Event) → v < 0x10 → IsGiven s waits → count_steps waits + 1 ≡ motion_time v s →
      (ended_after v waits s).last_inward ≡ (if head_selected s == 0 then s.last_inward else false)
  pub seek_way : (s : State) (v : ℕ) (waits : List Event) → 0x10 ≤ v → v < 0x20 → IsGiven s waits → count_steps waits + 1 ≡ motion_time v s →
      (ended_after v waits s).last_inward ≡ (if s.track == s.byte then s.last_inward else nat_lt s.track s.byte)
  -- If the track register is the head's track, seek leaves the head at the data register's track.
  pub sought : (s : State) (v : ℕ) (waits : List Event) → 0x10 ≤ v → v < 0x20 → IsGiven s waits → count_steps waits + 1 ≡ motion_time v s →
      s.track ≡ head_selected s → s.byte ≤ 83 → Arrives v s.byte s.byte (ended_after v waits s)
  -- step: one step in the last direction; step-in and step-out: one step, which sets that
  -- direction. The track register counts the step if bit 4 is set.
  pub step_on : (s : State) (v : ℕ) (waits : List Event) → 0x20 ≤ v → v < 0x40 → IsGiven s waits → count_steps waits + 1 ≡ motion_time v s →
      Arrives v (head_moved s.last_inward 1 (head_selected s)) (if bit v 4 then track_counted s.last_inward s.track else s.track) (ended_after v waits s)
      × ((ended_after v waits s).last_inward ≡ s.last_inward)
  pub step_in : (s : State) (v : ℕ) (waits : List Event) → 0x40 ≤ v → v < 0x60 → IsGiven s waits → count_steps waits + 1 ≡ motion_time v s →
      Arrives v (head_moved true 1 (head_selected s)) (if bit v 4 then track_counted true s.track else s.track) (ended_after v waits s)
      × ((ended_after v waits s).last_inward ≡ true)
  pub step_out : (s : State) (v : ℕ) (waits : List Event) → 0x60 ≤ v → v < 0x80 → IsGiven s waits → count_steps waits + 1 ≡ motion_time v s →
      Arrives v (head_moved false 1 (head_selected s)) (if bit v 4 then track_counted false s.track else s.track) (ended_after v waits s)
      × ((ended_after v waits s).last_inward ≡ false)
