-- Commands that are written: a search up to the beginning of its sector, and a motion up to its
-- end.
use Rattle.std.proofs.Common.{◌≡◌, ◌∙◌, sym, ap, subst, refl, ℕ, ◌+◌, ◌-◌, ◌/◌, ◌%◌, ◌<◌, ◌≤◌, ◌==◌, ◌&&◌, Bool, true, false, List, arith, inl, inr, ◌*◌}
use Rattle.std.proofs.Common.{◌||◌, min, max, not}
use Rattle.std.specs.Prelude.{Some, nat_lt, if◌then◌else◌}
use Rattle.std.proofs.lemmas.Bool.{cases_lt, eq-eqb, ne_eqb, lt-ltb, le-ltb}
use Rattle.beeb_bits.specs.Bits.{bit}
use Rattle.wd1770.specs.declared.command.Command.{Command}
use Rattle.wd1770.specs.declared.command.Command.TheVariants.{Idle, Settling, Moving}
use Rattle.wd1770.specs.declared.command.Transfer.{Transfer}
use Rattle.wd1770.specs.State.{State}
use Rattle.wd1770.specs.Select.{is_reset, disc_in, drive_selected, drive_or_0, drive_of, with_drive, head_selected}
use Rattle.wd1770.specs.Ends.{is_asking, count_leaves, is_busy}
use Rattle.wd1770.specs.Sectors.{search_of, transfer_of, sectors_of}
use Rattle.wd1770.specs.Commands.{command_of, begin_leaves}
use Rattle.wd1770.specs.Registers.{write_leaves}
use Rattle.wd1770.specs.Step.{next_angle, command_step, work_leaves}
use Rattle.wd1770.specs.History.{Event, history, count_steps}
use Rattle.law_chips.specs.SectorReads.{IsAtSector}
use Rattle.law_chips.specs.Searches.{has_match, steps_to, sector_angle}
use Rattle.law_chips.specs.InTime.{settle_time, IsFound, found_after}
use Rattle.law_chips.proofs.Reading.{same_disc}
use Rattle.law_chips.proofs.Search.{search_ends, within_turn}
use Rattle.law_chips.proofs.Waiting.{CountsDown, waits_so, Waited}
use Rattle.law_chips.proofs.Motor.{motor_rests}
use Rattle.wd1770.specs.declared.drive.Drive.{Drive}
use Rattle.wd1770.specs.declared.drive.DriveNumber.{DriveNumber}
use Rattle.wd1770.specs.declared.drive.DriveNumber.TheVariants.{Drive0, Drive1}
use Rattle.wd1770.specs.declared.command.Motion.{Motion}
use Rattle.wd1770.specs.declared.command.TrackChange.{TrackChange}
use Rattle.wd1770.specs.declared.command.TrackChange.TheVariants.{Stays, Follows, Becomes}
use Rattle.wd1770.specs.Motion.{step_time, step_once, motion_of, head_after, track_changed, track_after, move_leaves}
use Rattle.law_chips.specs.Motions.{head_steps, motion_time, head_moved, track_counted, IsGiven, ended_after, Arrives, MotionsArrive}

-- A command other than Dx, written while there is none.
pub begun : (v : ℕ) (s : State) → s.command ≡ Idle → is_reset s.latch ≡ false → (v / 16 ≡ 0xD → ⊥) →
    write_leaves 0 v s ≡ count_leaves (is_asking s) (begin_leaves v s)
begun v s idle live other = rw (live, ne_eqb (v / 16) 0xD other, idle)

sector_command : (v : ℕ) (s : State) → 0x80 ≤ v → v < 0xC0 → command_of v s ≡ sectors_of v s
sector_command v s low high = rw (le-ltb v 0x80 low, lt-ltb v 0xC0 high)

-- the command `m` steps after its write, if the head settles for `left` steps
settling : Transfer → ℕ → ℕ → Command
settling t left m = if nat_lt m left then Settling t (left - m) else search_of t

settles_down : (t : Transfer) (left : ℕ) → CountsDown (settling t left) left
unfolding settling
settles_down t left = grind arith

settled_is : (b : Bool) (v : ℕ) (s : State) → bit v 2 ≡ b → sectors_of v s ≡ settling (transfer_of v s) (settle_time v) 0
unfolding settling
settled_is true v s is = rw is
settled_is false v s is = rw is

over_is : (t : Transfer) (left : ℕ) → settling t left left ≡ search_of t
unfolding settling
over_is t left = grind arith

-- the beginning of the sector
pub record Starts (s0 : State) (t : Transfer) (s : State) : Type 0 where
  pub at : IsAtSector s t s0.sector
  pub lost : s.lost_data ≡ false
  pub disc : disc_in t.target.drive s ≡ disc_in t.target.drive s0
  pub sector : s.sector ≡ s0.sector

-- a search has a sector if it had one before the program waited
same_match : (s s1 : State) (t : Transfer) → s1.latch ≡ s.latch → s1.track ≡ s.track → s1.sector ≡ s.sector → s1.drive0 ≡ s.drive0 → s1.drive1 ≡ s.drive1 →
    has_match t s1 ≡ has_match t s
same_match s s1 t latch track sector drive0 drive1 = grind arith

pub starts : (s : State) (v : ℕ) (settles waits : List Event) → 0x80 ≤ v → v < 0xC0 → IsFound s v settles waits →
    Starts s (transfer_of v s) (found_after v settles waits s)
starts s v settles waits low high is =
    let t = transfer_of v s in
    let s1 = write_leaves 0 v s in
    let written = begun v s is.idle is.live (λ e. omega arith) in
    let command : s1.command ≡ settling t (settle_time v) 0 =
    ap (λ (x : State). x.command) written ∙ sector_command v s low high ∙ settled_is (bit v 2) v s refl in
    let w = waits_so (settling t (settle_time v)) (settle_time v) (settles_down t (settle_time v)) settles s1 is.settle (omega arith) command in
    let s2 = history settles s1 in
    let searches : s2.command ≡ search_of t = w.command ∙ ap (settling t (settle_time v)) is.settled ∙ over_is t (settle_time v) in
    let off : s2.drq ≡ false = w.drq (ap (λ (x : State). x.drq) written) in
    let sector : s2.sector ≡ s.sector = cc in
    let drive0 : s2.drive0 ≡ s.drive0 = cc in
    let drive1 : s2.drive1 ≡ s.drive1 = cc in
    let has : has_match t s2 ≡ true =
    same_match s s2 t (cc) (cc) sector drive0 drive1 ∙ is.has in
    let waited = subst (λ n. count_steps waits ≡ steps_to (sector_angle n) s2) (sym sector) is.waited in
    let found = search_ends.found s2 t 1000001 waits searches (within_turn s2 1000001 (omega arith)) has off is.wait waited in
    record {
      at = subst (λ n. IsAtSector (history waits s2) t n) sector found.0;
      lost = cc;
      disc = found.1 ∙ same_disc t.target.drive s2 s drive0 drive1;
      sector = found.3 ∙ sector;
    }

-- bit 5 separates writes from reads
pub is_read : (v : ℕ) → 0x80 ≤ v → v < 0xA0 → bit v 5 ≡ false
is_read v low high = ne_eqb (v / 32 % 2) 1 (λ e. omega arith)

pub is_write : (v : ℕ) → 0xA0 ≤ v → v < 0xC0 → bit v 5 ≡ true
is_write v low high = eq-eqb (v / 32 % 2) 1 (omega arith)

-- `steps` steps of the selected head, within the time of the command
motion : ℕ → Bool → TrackChange → ℕ → State → Motion
motion v inward track steps s = record { drive = drive_or_0 (drive_selected s.latch); steps = steps; inward = inward; track = track; verifies = bit v 2 }

left_of : ℕ → ℕ → ℕ
left_of v n = max 1 (n * step_time v)

counting : Motion → ℕ → ℕ → Command
counting m left n = Moving m (left - n)

counts : (m : Motion) (left : ℕ) → CountsDown (counting m left) (left - 1)
unfolding counting
counts m left = grind arith

motion_command : (v : ℕ) (s : State) → v < 0x80 → command_of v s ≡ motion_of v s
motion_command v s low = rw (lt-ltb v 0x80 low)

-- after its write and some waiting
waited : (s : State) (v : ℕ) (waits : List Event) (m : Motion) (left : ℕ) → v < 0x80 → IsGiven s waits → motion_of v s ≡ Moving m left → 0 < left →
    count_steps waits < left → Waited (write_leaves 0 v s) (counting m left (count_steps waits)) (history waits (write_leaves 0 v s)) (count_steps waits)
unfolding counting
waited s v waits m left low is moves some inside =
    let written = begun v s is.idle is.live (λ e. omega arith) in
    let all : left ≡ left - 0 = omega arith in
    let command : (write_leaves 0 v s).command ≡ Moving m (left - 0) =
    ap (λ (x : State). x.command) written ∙ motion_command v s low ∙ moves ∙ ap (Moving m) all in
    waits_so (counting m left) (left - 1) (counts m left) waits (write_leaves 0 v s) is.wait (omega arith) command

same_drive : (number : DriveNumber) (s s0 : State) → s.drive0 ≡ s0.drive0 → s.drive1 ≡ s0.drive1 → drive_of number s ≡ drive_of number s0
same_drive Drive0 s s0 a b = a
same_drive Drive1 s s0 a b = b

same_head : (s s0 : State) → s.latch ≡ s0.latch → s.drive0 ≡ s0.drive0 → s.drive1 ≡ s0.drive1 → head_selected s ≡ head_selected s0
same_head s s0 latch a b = grind arith

put_in : (number : DriveNumber) (d : Drive) (s : State) → drive_of number (with_drive number d s) ≡ d
put_in Drive0 d s = refl
put_in Drive1 d s = refl

put_keeps : (number : DriveNumber) (d : Drive) (s : State) → (with_drive number d s).latch ≡ s.latch
put_keeps Drive0 d s = refl
put_keeps Drive1 d s = refl

-- the other fields
renamed : (number : DriveNumber) (x y : State) → x.drive0 ≡ y.drive0 → x.drive1 ≡ y.drive1 → (drive_of number x).head ≡ (drive_of number y).head
renamed number x y a b = ap (λ (d : Drive). d.head) (same_drive number x y a b)

-- The state at the end of a motion.
record Moved (m : Motion) (there value : ℕ) (before x : State) : Type 0 where
  pub over : x.command ≡ Idle
  pub asks : x.intrq ≡ true
  pub latch : x.latch ≡ before.latch
  pub head : (drive_of m.drive x).head ≡ there
  pub track : x.track ≡ value
  pub not_found : x.record_not_found ≡ (before.record_not_found || (m.verifies && not (value == there)))
  pub last_inward : x.last_inward ≡ (if m.steps == 0 then before.last_inward else m.inward)
  pub motor : x.motor ≡ 2000000

moved : (m : Motion) (s : State) → Moved m (head_after m s) (track_after m s) s (move_leaves m s)
moved m s = grind arith

-- the head, and the track register, after a motion
head_by : Motion → ℕ → ℕ
head_by m head = head_moved m.inward m.steps head

track_by : Motion → ℕ → ℕ
track_by m track = track_changed m.track m.inward track

arrived : (s : State) (v : ℕ) (waits : List Event) (m : Motion) (left : ℕ) → v < 0x80 → IsGiven s waits → motion_of v s ≡ Moving m left → 0 < left →
    m.drive ≡ drive_or_0 (drive_selected s.latch) → m.verifies ≡ bit v 2 → count_steps waits + 1 ≡ left →
    Arrives v (head_by m (head_selected s)) (track_by m s.track) (ended_after v waits s)
    × ((ended_after v waits s).last_inward ≡ (if m.steps == 0 then s.last_inward else m.inward))
unfolding counting head_by track_by
arrived s v waits m left low is moves some drive verifies end =
    let written = begun v s is.idle is.live (λ e. omega arith) in
    let w = waited s v waits m left low is moves some (omega arith) in
    let y = history waits (write_leaves 0 v s) in
    let y1 : State = record y { angle = Some (next_angle y.angle) } in
    let one : left - count_steps waits ≡ 1 = omega arith in
    let last : work_leaves y ≡ move_leaves m y1 = ap (λ c. command_step c (next_angle y.angle) y1) (w.command ∙ ap (Moving m) one) in
    let x = ended_after v waits s in
    let is_x : x ≡ count_leaves (is_asking y) (move_leaves m y1) = ap (count_leaves (is_asking y)) last in
    let e = moved m y1 in
    let drive0 : y.drive0 ≡ s.drive0 = w.drive0 ∙ ap (λ (x : State). x.drive0) written in
    let drive1 : y.drive1 ≡ s.drive1 = w.drive1 ∙ ap (λ (x : State). x.drive1) written in
    let latch : y.latch ≡ s.latch = w.latch ∙ ap (λ (x : State). x.latch) written in
    let track : y.track ≡ s.track = w.track ∙ ap (λ (x : State). x.track) written in
    let from : (drive_of m.drive y1).head ≡ head_selected s =
    renamed m.drive y1 s drive0 drive1 ∙ ap (λ n. (drive_of n s).head) drive in
    let head : head_after m y1 ≡ head_moved m.inward m.steps (head_selected s) = ap (λ h. head_moved m.inward m.steps h) from in
    let becomes : track_after m y1 ≡ track_changed m.track m.inward s.track = ap (track_changed m.track m.inward) track in
    let x_latch : x.latch ≡ s.latch = ap (λ (x : State). x.latch) is_x ∙ e.latch ∙ latch in (
      record {
        over = ap (λ (x : State). x.command) is_x ∙ e.over;
        asks = ap (λ (x : State). x.intrq) is_x ∙ e.asks;
        head =
            ap (λ l. (drive_of (drive_or_0 (drive_selected l)) x).head) x_latch ∙ ap (λ n. (drive_of n x).head) (sym drive)
            ∙ ap (λ (x : State). (drive_of m.drive x).head) is_x ∙ renamed m.drive (count_leaves (is_asking y) (move_leaves m y1)) (move_leaves m y1) refl refl
            ∙ e.head ∙ head;
        track = ap (λ (x : State). x.track) is_x ∙ e.track ∙ becomes;
        seek_error =
            ap (λ (x : State). x.record_not_found) is_x ∙ e.not_found
            ∙ ap (λ b. b || (m.verifies && not (track_after m y1 == head_after m y1))) (w.not_found ∙ ap (λ (x : State). x.record_not_found) written)
            ∙ ap (λ b. b && not (track_after m y1 == head_after m y1)) verifies
            ∙ ap (λ n. bit v 2 && not (n == head_after m y1)) becomes
            ∙ ap (λ n. bit v 2 && not (track_changed m.track m.inward s.track == n)) head;
        motor = motor_rests 2000000 x (record {
          command = ap (λ (x : State). x.command) is_x ∙ e.over;
          motor = ap (λ (x : State). x.motor) is_x ∙ e.motor;
        });
      },
      ap (λ (x : State). x.last_inward) is_x ∙ e.last_inward
          ∙ ap (λ b. if m.steps == 0 then b else m.inward) (w.last_inward ∙ ap (λ (x : State). x.last_inward) written),
    )

-- ---- The motion of each command

is_restore : (v : ℕ) (s : State) → v < 0x10 → motion_of v s ≡ Moving (motion v false (Becomes 0) (head_selected s) s) (left_of v (head_selected s))
unfolding motion left_of
is_restore v s low = rw (lt-ltb v 0x10 low)

is_seek : (v : ℕ) (s : State) → 0x10 ≤ v → v < 0x20 →
    motion_of v s ≡ Moving (motion v (nat_lt s.track s.byte) (Becomes s.byte) (max s.byte s.track - min s.byte s.track) s)
    (left_of v (max s.byte s.track - min s.byte s.track))
unfolding motion left_of
is_seek v s low high = rw (le-ltb v 0x10 low, lt-ltb v 0x20 high)

-- the direction of a command of one step
inward_by : ℕ → State → Bool
inward_by v s = if nat_lt v 0x40 then s.last_inward else nat_lt v 0x60

is_step : (v : ℕ) (s : State) → 0x20 ≤ v → motion_of v s ≡ step_once v (inward_by v s) s
unfolding inward_by
is_step v s low = grind arith

step_motion : ℕ → Bool → State → Motion
step_motion v inward s = motion v inward (if bit v 4 then Follows else Stays) 1 s

is_step_so : (v : ℕ) (s : State) → 0x20 ≤ v → motion_of v s ≡ Moving (step_motion v (inward_by v s) s) (left_of v 1)
unfolding step_motion motion left_of
is_step_so v s low = is_step v s low

some_left : (v n : ℕ) → 0 < left_of v n
unfolding left_of
some_left v n = omega arith

-- the time of each command
time_of_restore : (v : ℕ) (s : State) → v < 0x10 → motion_time v s ≡ left_of v (head_selected s)
unfolding left_of
time_of_restore v s low = rw (lt-ltb v 0x10 low)

steps_of_seek : (v : ℕ) (s : State) → 0x10 ≤ v → v < 0x20 → head_steps v s ≡ max s.byte s.track - min s.byte s.track
steps_of_seek v s low high = rw (le-ltb v 0x10 low, lt-ltb v 0x20 high)

steps_of_step : (v : ℕ) (s : State) → 0x20 ≤ v → head_steps v s ≡ 1
steps_of_step v s low = rw (le-ltb v 0x10 (omega arith), le-ltb v 0x20 low)

time_by : (v n : ℕ) (s : State) → head_steps v s ≡ n → motion_time v s ≡ left_of v n
unfolding left_of
time_by v n s is = ap (λ k. max 1 (k * step_time v)) is

restored : (s : State) (v : ℕ) (waits : List Event) → v < 0x10 → IsGiven s waits → count_steps waits + 1 ≡ motion_time v s →
    Arrives v 0 0 (ended_after v waits s) × ((ended_after v waits s).last_inward ≡ (if head_selected s == 0 then s.last_inward else false))
unfolding motion head_by track_by
restored s v waits low is end =
    let n = head_selected s in
    let m = motion v false (Becomes 0) n s in
    let a = arrived s v waits m (left_of v n) (omega arith) is (is_restore v s low) (some_left v n) refl refl (end ∙ time_of_restore v s low) in
    let none : n - n ≡ 0 = omega arith in
    (subst (λ h. Arrives v h 0 (ended_after v waits s)) none a.0, a.1)

-- a seek makes no step if both registers are the same
no_steps : (byte track : ℕ) → (max byte track - min byte track == 0) ≡ (track == byte)
no_steps byte track = grind arith

sought : (s : State) (v : ℕ) (waits : List Event) → 0x10 ≤ v → v < 0x20 → IsGiven s waits → count_steps waits + 1 ≡ motion_time v s →
    Arrives v (head_moved (nat_lt s.track s.byte) (head_steps v s) (head_selected s)) s.byte (ended_after v waits s)
    × ((ended_after v waits s).last_inward ≡ (if s.track == s.byte then s.last_inward else nat_lt s.track s.byte))
unfolding motion head_by track_by
sought s v waits low high is end =
    let n = max s.byte s.track - min s.byte s.track in
    let m = motion v (nat_lt s.track s.byte) (Becomes s.byte) n s in
    let same = steps_of_seek v s low high in
    let a = arrived s v waits m (left_of v n) (omega arith) is (is_seek v s low high) (some_left v n) refl refl (end ∙ time_by v n s same) in (
      subst (λ k. Arrives v (head_moved (nat_lt s.track s.byte) k (head_selected s)) s.byte (ended_after v waits s)) (sym same) a.0,
      a.1 ∙ ap (λ b. if b then s.last_inward else nat_lt s.track s.byte) (no_steps s.byte s.track),
    )

-- If the track register is the head's track, a seek moves the head to the data register's track.
gets_there : (byte track : ℕ) → byte ≤ 83 → head_moved (nat_lt track byte) (max byte track - min byte track) track ≡ byte
gets_there byte track small = grind arith

found_it : (s : State) (v : ℕ) (waits : List Event) → 0x10 ≤ v → v < 0x20 → IsGiven s waits → count_steps waits + 1 ≡ motion_time v s →
    s.track ≡ head_selected s → s.byte ≤ 83 → Arrives v s.byte s.byte (ended_after v waits s)
found_it s v waits low high is end same small = grind (arith, steps_of_seek, gets_there, sought)

counted_track : (b inward : Bool) (track : ℕ) → track_changed (if b then Follows else Stays) inward track ≡ (if b then track_counted inward track else track)
counted_track true inward track = refl
counted_track false inward track = refl

stepped : (s : State) (v : ℕ) (inward : Bool) (waits : List Event) → 0x20 ≤ v → v < 0x80 → inward_by v s ≡ inward → IsGiven s waits →
    count_steps waits + 1 ≡ motion_time v s →
    Arrives v (head_moved inward 1 (head_selected s)) (if bit v 4 then track_counted inward s.track else s.track) (ended_after v waits s)
    × ((ended_after v waits s).last_inward ≡ inward)
unfolding motion head_by track_by step_motion left_of
stepped s v inward waits low high way is end =
    let m = step_motion v inward s in
    let moves : motion_of v s ≡ Moving m (left_of v 1) = is_step v s low ∙ ap (λ b. step_once v b s) way in
    let a = arrived s v waits m (left_of v 1) high is moves (some_left v 1) refl refl (end ∙ time_by v 1 s (steps_of_step v s low)) in
    (subst (λ n. Arrives v (head_moved inward 1 (head_selected s)) n (ended_after v waits s)) (counted_track (bit v 4) inward s.track) a.0, a.1)

still : (s : State) (v : ℕ) (waits : List Event) (m : Motion) (left : ℕ) → v < 0x80 → IsGiven s waits → motion_of v s ≡ Moving m left → 0 < left →
    count_steps waits < left →
    (is_busy (history waits (write_leaves 0 v s)).command ≡ true)
    × (head_selected (history waits (write_leaves 0 v s)) ≡ head_selected s)
    × ((history waits (write_leaves 0 v s)).track ≡ s.track)
unfolding counting
still s v waits m left low is moves some inside =
    let written = begun v s is.idle is.live (λ e. omega arith) in
    let w = waited s v waits m left low is moves some inside in
    let y = history waits (write_leaves 0 v s) in (
      ap is_busy w.command,
      same_head y s (cc) (cc) (cc),
      cc,
    )

until : (s : State) (v : ℕ) (waits : List Event) → v < 0x80 → IsGiven s waits → count_steps waits < motion_time v s →
    (is_busy (history waits (write_leaves 0 v s)).command ≡ true)
    × (head_selected (history waits (write_leaves 0 v s)) ≡ head_selected s)
    × ((history waits (write_leaves 0 v s)).track ≡ s.track)
unfolding motion step_motion
until s v waits low is inside = elim (cases_lt v 0x10) [
  | inl restores ↦
      let n = head_selected s in
      still s v waits (motion v false (Becomes 0) n s) (left_of v n) low is (is_restore v s restores) (some_left v n)
      (subst (λ k. count_steps waits < k) (time_of_restore v s restores) inside)
  | inr more ↦
      elim (cases_lt v 0x20) [
        | inl seeks ↦
            let n = max s.byte s.track - min s.byte s.track in
            still s v waits (motion v (nat_lt s.track s.byte) (Becomes s.byte) n s) (left_of v n) low is (is_seek v s more seeks) (some_left v n)
            (subst (λ k. count_steps waits < k) (time_by v n s (steps_of_seek v s more seeks)) inside)
        | inr steps ↦
            still s v waits (step_motion v (inward_by v s) s) (left_of v 1) low is (is_step_so v s steps) (some_left v 1)
            (subst (λ k. count_steps waits < k) (time_by v 1 s (steps_of_step v s steps)) inside)
      ]
]

pub motions_arrive : MotionsArrive
unfolding inward_by
motions_arrive = record {
  until = until;
  restore = λ s v waits low is end. (restored s v waits low is end).0;
  seek = λ s v waits low high is end. (sought s v waits low high is end).0;
  restore_way = λ s v waits low is end. (restored s v waits low is end).1;
  seek_way = λ s v waits low high is end. (sought s v waits low high is end).1;
  sought = found_it;
  step_on = λ s v waits low high is end.
      stepped s v s.last_inward waits low (omega arith) (ap (λ b. if b then s.last_inward else nat_lt v 0x60) (lt-ltb v 0x40 high)) is end;
  step_in = λ s v waits low high is end.
      stepped s v true waits (omega arith) (omega arith)
      (ap (λ b. if b then s.last_inward else nat_lt v 0x60) (le-ltb v 0x40 low) ∙ lt-ltb v 0x60 high) is end;
  step_out = λ s v waits low high is end.
      stepped s v false waits (omega arith) high
      (ap (λ b. if b then s.last_inward else nat_lt v 0x60) (le-ltb v 0x40 (omega arith)) ∙ le-ltb v 0x60 low) is end;
}
