-- The angle, the heads, INTRQ and the reset over whole histories.
use Rattle.std.proofs.Common.{◌≡◌, ◌∙◌, sym, refl, ap, ℕ, zero, suc, ◌+◌, ◌-◌, ◌/◌, ◌≤◌, ◌==◌}
use Rattle.std.proofs.Common.{nat_lt, Bool, true, false, if◌then◌else◌, List, [], ◌∷◌, Option, None, Some, add-one, inl, inr, arith}
use Rattle.std.proofs.lemmas.Bool.{cases_Bool}
use Rattle.std.proofs.lemmas.Grind.{common_steps}
use Rattle.disc_image.specs.Image.{Image}
use Rattle.wd1770.specs.declared.drive.DriveNumber.{DriveNumber}
use Rattle.wd1770.specs.declared.drive.DriveNumber.TheVariants.{Drive0, Drive1}
use Rattle.wd1770.specs.declared.drive.Target.{Target}
use Rattle.wd1770.specs.declared.command.Command.{Command}
use Rattle.wd1770.specs.declared.command.Command.TheVariants.{Idle, Moving, Settling, Searching, Transferring, SeekingAddress, GivingAddress, Refusing}
use Rattle.wd1770.specs.declared.command.Motion.{Motion}
use Rattle.wd1770.specs.declared.command.Transfer.{Transfer}
use Rattle.wd1770.specs.State.{State, power_on}
use Rattle.wd1770.specs.Select.{is_reset, drive_of, with_drive}
use Rattle.wd1770.specs.Ends.{is_busy, is_asking, count_leaves}
use Rattle.wd1770.specs.Motion.{head_after, move_leaves}
use Rattle.wd1770.specs.Sectors.{sector_ended, reading_at, writing_at, written_in, places_into}
use Rattle.wd1770.specs.Addresses.{address_at}
use Rattle.wd1770.specs.Commands.{begin_leaves, force_leaves, command_written, stop_leaves, latch_leaves}
use Rattle.wd1770.specs.Registers.{register_read, register_written, read_leaves, write_leaves}
use Rattle.wd1770.specs.Step.{next_angle, command_step, step}
use Rattle.wd1770.specs.History.{Event, microsecond, read, write, latch, happens, history, count_steps, angle_after, IsSound}
use Rattle.wd1770.proofs.Turning.{turned, one_more}

written_angle : (v : ℕ) (s : State) → (command_written v s).angle ≡ s.angle
written_angle v s = grind arith

next_after : (n : ℕ) → Some (next_angle (angle_after n)) ≡ angle_after (suc n)
next_after zero = refl
next_after (suc m) = ap (λ (a : ℕ). Some a) (one_more m) ∙ rw add-one refl

turns : (events : List Event) (s : State) (n : ℕ) → s.angle ≡ angle_after n → (history events s).angle ≡ angle_after (n + count_steps events)
turns [] s n at = at ∙ ap angle_after (omega arith)
turns (microsecond ∷ es) s n at =
    turns es (step s) (suc n) (turned s ∙ ap (λ (a : Option ℕ). Some (next_angle a)) at ∙ next_after n) ∙ ap angle_after (omega arith)
turns (read reg ∷ es) s n at = turns es (read_leaves reg s) n (grind (arith, at))
turns (write reg v ∷ es) s n at = turns es (write_leaves reg v s) n (grind (arith, written_angle, at))
turns (latch v ∷ es) s n at = turns es (latch_leaves v s) n (grind (arith, at))

pub turns_on : (d0 d1 : Option Image) (events : List Event) → (history events (power_on d0 d1)).angle ≡ angle_after (count_steps events)
turns_on d0 d1 events = turns events (power_on d0 d1) 0 refl ∙ ap angle_after (omega arith)

-- The invariant of a command's step. A command that continues raises no INTRQ.
record Keeps (s t : State) : Type 0 where
  pub head0 : t.drive0.head ≡ s.drive0.head
  pub head1 : t.drive1.head ≡ s.drive1.head
  pub latch : t.latch ≡ s.latch
  pub quiet : is_busy t.command ≡ true → s.intrq ≡ false → t.intrq ≡ false

-- while a command is in progress the reset is off
awake : {s : State} → IsSound s → is_busy s.command ≡ true → is_reset s.latch ≡ false
awake {s} is busy = elim (cases_Bool (is_reset s.latch)) [
  | inl on ↦ cc (is.idle_in_reset on, busy)
  | inr off ↦ off
]

sound_step : {s t : State} → IsSound s → is_busy s.command ≡ true → Keeps s t → IsSound t
sound_step is busy keeps = grind (arith, is, keeps, awake is busy)

-- the fields that the end of a command does not change
record KeepsHeads (s t : State) : Type 0 where
  pub head0 : t.drive0.head ≡ s.drive0.head
  pub head1 : t.drive1.head ≡ s.drive1.head
  pub latch : t.latch ≡ s.latch
  pub intrq : t.intrq ≡ s.intrq

byte_put : (number : Option DriveNumber) (target : Target) (k at v : ℕ) (s : State) → KeepsHeads s (written_in number target k at v s)
byte_put None target k at v s = grind arith
byte_put (Some Drive0) target k at v s = grind arith
byte_put (Some Drive1) target k at v s = grind arith

sector_end : (t : Transfer) (s : State) → Keeps s (sector_ended t s)
sector_end t s = grind arith

in_reading : (t : Transfer) (k : ℕ) (place : Option ℕ) (s : State) → Keeps s (reading_at t k place s)
in_reading t k None s = grind arith
in_reading t k (Some place) s = grind (arith, sector_end t s)

in_writing : (t : Transfer) (k : ℕ) (place : Option ℕ) (s : State) → Keeps s (writing_at t k place s)
in_writing t k None s = grind arith
in_writing t k (Some place) s =
    let end = sector_end t s in
    let put = byte_put t.target.drive t.target k (place - 30) (if s.drq then 0 else s.byte) s in
    record {
      head0 = grind (arith, end.head0, put.head0);
      head1 = grind (arith, end.head1, put.head1);
      latch = grind (arith, end.latch, put.latch);
      quiet = grind (arith, end.quiet, put.intrq);
    }

in_address : (target : Target) (k : ℕ) (place : Option ℕ) (s : State) → Keeps s (address_at target k place s)
in_address target k None s = grind arith
in_address target k (Some place) s = grind arith

-- A head that moves stays at tracks 0 to 83.
head_small : (m : Motion) (s : State) → (drive_of m.drive s).head ≤ 83 → head_after m s ≤ 83
head_small m s small = grind (arith, common_steps)

moved_sound : (number : DriveNumber) {h : ℕ} (s : State) → h ≤ 83 → s.drive0.head ≤ 83 → s.drive1.head ≤ 83 →
    ((with_drive number (record (drive_of number s) { head = h }) s).drive0.head ≤ 83)
    × ((with_drive number (record (drive_of number s) { head = h }) s).drive1.head ≤ 83)
    × ((with_drive number (record (drive_of number s) { head = h }) s).latch ≡ s.latch)
moved_sound Drive0 s small head0 head1 = (small, head1, refl)
moved_sound Drive1 s small head0 head1 = (head0, small, refl)

drive_small : (number : DriveNumber) {s : State} → IsSound s → (drive_of number s).head ≤ 83
drive_small Drive0 is = is.head0
drive_small Drive1 is = is.head1

motion_ends : (m : Motion) {s : State} → IsSound s → is_busy s.command ≡ true → IsSound (move_leaves m s)
motion_ends m {s} is busy =
    let (head0, head1, same) = moved_sound m.drive s (head_small m s (drive_small m.drive is)) is.head0 is.head1 in
    grind (arith, head0, head1, same, awake is busy)

either : (b : Bool) {x y : State} → IsSound x → IsSound y → IsSound (if b then x else y)
either true p q = p
either false p q = q

choice : (b : Bool) {s x y : State} → Keeps s x → Keeps s y → Keeps s (if b then x else y)
choice true p q = p
choice false p q = q

-- One step of the command that is in progress.
goes_on : (c : Command) (angle : ℕ) {s : State} → is_busy c ≡ true → is_busy s.command ≡ true → IsSound s → IsSound (command_step c angle s)
goes_on Idle angle b busy is = cc
goes_on (Moving m left) angle b busy is =
    either (nat_lt 1 left) (sound_step is busy (grind arith)) (motion_ends m is busy)
goes_on (Settling t left) angle b busy is = sound_step is busy (grind arith)
goes_on (Searching t left) angle b busy is = sound_step is busy (grind arith)
goes_on (Transferring t k) angle {s} b busy is =
    sound_step is busy (choice t.writes (in_writing t k (places_into k angle) s) (in_reading t k (places_into k angle) s))
goes_on (SeekingAddress target left) angle b busy is = sound_step is busy (grind arith)
goes_on (GivingAddress target k) angle {s} b busy is = sound_step is busy (in_address target k (places_into k angle) s)
goes_on Refusing angle b busy is = sound_step is busy (grind arith)

-- changes of fields that `IsSound` does not restrict, and of a DRQ that falls
same_state : {s t : State} → IsSound s → t.drive0 ≡ s.drive0 → t.drive1 ≡ s.drive1 → t.command ≡ s.command → t.latch ≡ s.latch → t.intrq ≡ s.intrq →
    (s.drq ≡ false → t.drq ≡ false) → IsSound t
same_state is drive0 drive1 command latched intrq drq = grind (arith, is)

counts : (before : Bool) {s : State} → IsSound s → IsSound (count_leaves before s)
counts before is = same_state is refl refl refl refl refl (λ h. h)

works : (busy : Bool) (c : Command) (angle : ℕ) {s : State} → is_busy c ≡ busy → c ≡ s.command → IsSound s → IsSound (command_step c angle s)
works true c angle b same is = goes_on c angle b (ap is_busy (sym same) ∙ b) is
works false Idle angle b same is = same_state is refl refl refl refl refl (λ h. h)
works false _ angle b same is = cc

steps_sound : {s : State} → IsSound s → IsSound (step s)
steps_sound {s} is = counts (is_asking s) (works (is_busy s.command) s.command (next_angle s.angle) refl refl (same_state is refl refl refl refl refl (λ h. h)))

read_sound : (reg : ℕ) {s : State} → IsSound s → IsSound (register_read reg s)
read_sound reg is = grind (arith, is)

-- A command that is written while the reset is off.
accepted : (reset : Bool) (v : ℕ) {s : State} → is_reset s.latch ≡ reset → IsSound s
    → IsSound (if reset then s else if v / 16 == 0xD then force_leaves v s else if is_busy s.command then s else begin_leaves v s)
accepted true v off is = is
accepted false v off is = grind (arith, is)

write_sound : (reg v : ℕ) {s : State} → IsSound s → IsSound (register_written reg v s)
write_sound reg v {s} is = grind (arith, is, accepted (is_reset s.latch) v refl is)

latched : (reset : Bool) (v : ℕ) {s : State} → is_reset v ≡ reset → IsSound s → IsSound (if reset then stop_leaves (record s { latch = v }) else record s { latch = v })
latched reset v r is = grind (arith, is)

each_sound : (e : Event) {s : State} → IsSound s → IsSound (happens e s)
each_sound microsecond is = steps_sound is
each_sound (read reg) {s} is = counts (is_asking s) (read_sound reg is)
each_sound (write reg v) {s} is = counts (is_asking s) (write_sound reg v is)
each_sound (latch v) is = latched (is_reset v) v refl is

all_sound : (events : List Event) {s : State} → IsSound s → IsSound (history events s)
all_sound [] is = is
all_sound (e ∷ es) is = all_sound es (each_sound e is)

pub stays_sound : (d0 d1 : Option Image) (events : List Event) → IsSound (history events (power_on d0 d1))
stays_sound d0 d1 events = all_sound events (grind arith)
