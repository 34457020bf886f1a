-- The discs of the controller, event by event.
use Rattle.std.proofs.Common.{◌≡◌, sym, subst, refl, ℕ, ◌-◌, ◌≤◌, ◌<◌, ◌==◌, ◌&&◌, nat_lt, max, Bool, true, false}
use Rattle.std.proofs.Common.{List, [], ◌∷◌, length, set, replicate, length-set, length-append, arith}
use Rattle.std.specs.Prelude.{Option, None, Some, option_map, if◌then◌else◌}
use Rattle.std.proofs.lemmas.Bool.{and_parts, ltb-true}
use Rattle.std.proofs.lemmas.List.{length-replicate}
use Rattle.disc_image.specs.declared.Kind.{Kind}
use Rattle.disc_image.specs.declared.Kind.TheVariants.{Ssd, Dsd}
use Rattle.disc_image.specs.Image.{Image, largest, has_sector, place, with_zeros_to, byte_put}
use Rattle.wd1770.specs.declared.drive.DriveNumber.{DriveNumber}
use Rattle.wd1770.specs.declared.drive.DriveNumber.TheVariants.{Drive0, Drive1}
use Rattle.wd1770.specs.declared.drive.Target.{Target}
use Rattle.wd1770.specs.declared.command.Command.{Command}
use Rattle.wd1770.specs.declared.command.Command.TheVariants.{Idle, Moving, Settling, Searching, Transferring, SeekingAddress, GivingAddress, Refusing}
use Rattle.wd1770.specs.declared.command.Transfer.{Transfer}
use Rattle.wd1770.specs.State.{State}
use Rattle.wd1770.specs.Select.{drive_of, with_drive, disc_of}
use Rattle.wd1770.specs.Motion.{head_after, move_leaves}
use Rattle.wd1770.specs.Sectors.{is_byte_place, byte_written, written_in, reading_at, writing_at, sector_ended, places_into}
use Rattle.wd1770.specs.Ends.{finish_leaves}
use Rattle.wd1770.specs.Addresses.{address_at}
use Rattle.wd1770.specs.Commands.{latch_leaves}
use Rattle.wd1770.specs.Registers.{read_leaves, write_leaves}
use Rattle.wd1770.specs.Step.{next_angle, command_step, step}
use Rattle.wd1770.specs.History.{Event, microsecond, read, write, latch, happens, history}
use Rattle.law_chips.specs.DiscImages.{most, KeepsImage, ImagesKeepTheirKind}

-- what a drive with or without a disc has afterwards
abbrev Kept : Option Image → Option Image → Type 0
Kept None now = now ≡ None
Kept (Some d) now = KeepsImage d now

still : (d : Option Image) → Kept d d
still None = refl
still (Some d) = record { bytes = d.bytes; disc = refl; grows = omega arith; fits = λ h. h }

then_kept : (a b c : Option Image) → Kept a b → Kept b c → Kept a c
then_kept None b c p q = subst (λ x. Kept x c) p q
then_kept (Some d) b c p q =
    let r : KeepsImage (record { kind = d.kind; bytes = p.bytes }) c = subst (λ x. Kept x c) p.disc q in
    record { bytes = r.bytes; disc = r.disc; grows = omega (arith, p.grows, r.grows); fits = λ h. r.fits (p.fits h) }

-- ---- A byte that is put

-- a sector that a kind has
three : (n side track sector : ℕ) → (nat_lt side n && nat_lt track 80 && nat_lt sector 10) ≡ true → (side < n) × (track < 80) × (sector < 10)
three n side track sector has =
    let (low, third) = and_parts (nat_lt side n && nat_lt track 80) (nat_lt sector 10) has in
    let (first, second) = and_parts (nat_lt side n) (nat_lt track 80) low in
    (ltb-true side n first, ltb-true track 80 second, ltb-true sector 10 third)

-- a sector ends within the image of its kind
sector_inside : (kind : Kind) (side track sector : ℕ) → has_sector kind side track sector ≡ true → place kind side track sector 256 ≤ most kind
sector_inside Ssd side track sector has = omega (arith, three 1 side track sector has)
sector_inside Dsd side track sector has = omega (arith, three 2 side track sector has)

put_size : (bytes : List ℕ) (end p v : ℕ) → length (set (with_zeros_to bytes end) p v) ≡ max (length bytes) end
put_size bytes end p v =
    omega (arith, length-set (with_zeros_to bytes end) p v, length-append bytes (replicate (end - length bytes) 0), length-replicate {A = ℕ} (end - length bytes) 0)

put_on : (has : Bool) (side track sector at v : ℕ) (d : Image) → has_sector d.kind side track sector ≡ has →
    KeepsImage d (Some (if has then record d { bytes = set (with_zeros_to d.bytes (place d.kind side track sector 256)) (place d.kind side track sector at) v } else d))
put_on false side track sector at v d has = still (Some d)
put_on true side track sector at v d has =
    let end = place d.kind side track sector 256 in
    let size = put_size d.bytes end (place d.kind side track sector at) v in
    let inside = sector_inside d.kind side track sector has in
    record {
      bytes = set (with_zeros_to d.bytes end) (place d.kind side track sector at) v;
      disc = refl;
      grows = omega (arith, size);
      fits = λ h. omega (arith, size, inside, h);
    }

put_kept : (side track sector at v : ℕ) (d : Option Image) → Kept d (option_map (byte_put side track sector at v) d)
put_kept side track sector at v None = refl
put_kept side track sector at v (Some d) = put_on (has_sector d.kind side track sector) side track sector at v d refl

-- ---- Both drives

abbrev Keep : State → State → Type 0
Keep s t = Kept s.drive0.disc t.drive0.disc × Kept s.drive1.disc t.drive1.disc

same : (s t : State) → t.drive0.disc ≡ s.drive0.disc → t.drive1.disc ≡ s.drive1.disc → Keep s t
same s t zero_is one_is =
    (subst (Kept s.drive0.disc) (sym zero_is) (still s.drive0.disc), subst (Kept s.drive1.disc) (sym one_is) (still s.drive1.disc))

either : (b : Bool) (s x y : State) → Keep s x → Keep s y → Keep s (if b then x else y)
either true s x y p q = p
either false s x y p q = q

written : (number : Option DriveNumber) (target : Target) (k at v : ℕ) (s : State) → Keep s (written_in number target k at v s)
written None target k at v s = (still s.drive0.disc, still s.drive1.disc)
written (Some Drive0) target k at v s = (put_kept target.side target.head k at v s.drive0.disc, still s.drive1.disc)
written (Some Drive1) target k at v s = (still s.drive0.disc, put_kept target.side target.head k at v s.drive1.disc)

moved : (number : DriveNumber) (h : ℕ) (s : State) → Keep s (with_drive number (record (drive_of number s) { head = h }) s)
moved Drive0 h s = (still s.drive0.disc, still s.drive1.disc)
moved Drive1 h s = (still s.drive0.disc, still s.drive1.disc)

-- ---- Steps

ended : (t : Transfer) (s : State) → Keep s (sector_ended t s)
ended t s = same s (sector_ended t s) (grind arith) (grind arith)

in_reading : (t : Transfer) (k : ℕ) (place : Option ℕ) (s : State) → Keep s (reading_at t k place s)
in_reading t k None s = same s s refl refl
in_reading t k (Some place) s = same s (reading_at t k (Some place) s) (grind arith) (grind arith)

in_writing : (t : Transfer) (k : ℕ) (place : Option ℕ) (s : State) → Keep s (writing_at t k place s)
in_writing t k None s = same s s refl refl
in_writing t k (Some place) s =
    let put = byte_written t.target k (place - 30) s in
    let end = if place == 288 then sector_ended t s else s in
    let byte = if is_byte_place 30 place then put else end in
    let lost = finish_leaves (record s { lost_data = true }) in
    let first = record s { drq = true } in
    either (place == 12) s first (if (place == 22) && s.drq then lost else byte) (same s first refl refl)
    (either ((place == 22) && s.drq) s lost byte (same s lost refl refl)
    (either (is_byte_place 30 place) s put end (written t.target.drive t.target k (place - 30) (if s.drq then 0 else s.byte) s)
    (either (place == 288) s (sector_ended t s) s (ended t s) (same s s refl refl))))

in_address : (target : Target) (k : ℕ) (place : Option ℕ) (s : State) → Keep s (address_at target k place s)
in_address target k None s = same s s refl refl
in_address target k (Some place) s = same s (address_at target k (Some place) s) (grind arith) (grind arith)

works : (c : Command) (angle : ℕ) (s : State) → Keep s (command_step c angle s)
works Idle angle s = same s (command_step Idle angle s) refl refl
works (Moving m left) angle s =
    either (nat_lt 1 left) s (record s { command = Moving m (left - 1) }) (move_leaves m s)
    (same s (record s { command = Moving m (left - 1) }) refl refl) (moved m.drive (head_after m s) s)
works (Settling t left) angle s = same s (command_step (Settling t left) angle s) refl refl
works (Searching t left) angle s = same s (command_step (Searching t left) angle s) (grind arith) (grind arith)
works (Transferring t k) angle s =
    let place = places_into k angle in
    either t.writes s (writing_at t k place s) (reading_at t k place s) (in_writing t k place s) (in_reading t k place s)
works (SeekingAddress target left) angle s = same s (command_step (SeekingAddress target left) angle s) (grind arith) (grind arith)
works (GivingAddress target k) angle s = in_address target k (places_into k angle) s
works Refusing angle s = same s (command_step Refusing angle s) refl refl

-- ---- Events

each : (e : Event) (s : State) → Keep s (happens e s)
each microsecond s = works s.command (next_angle s.angle) (record s { angle = Some (next_angle s.angle) })
each (read reg) s = same s (read_leaves reg s) (grind arith) (grind arith)
each (write reg v) s = same s (write_leaves reg v s) (grind arith) (grind arith)
each (latch v) s = same s (latch_leaves v s) (grind arith) (grind arith)

all : (events : List Event) (s : State) → Keep s (history events s)
all [] s = same s s refl refl
all (e ∷ events) s =
    let now = happens e s in
    let end = history events now in
    let (first0, first1) = each e s in
    let (rest0, rest1) = all events now in (
      then_kept s.drive0.disc now.drive0.disc end.drive0.disc first0 rest0,
      then_kept s.drive1.disc now.drive1.disc end.drive1.disc first1 rest1,
    )

-- the disc of a drive by its number
chosen : (a b : Bool) (d0 d1 e0 e1 : Option Image) → Kept d0 e0 → Kept d1 e1 →
    Kept (if a then d0 else if b then d1 else None) (if a then e0 else if b then e1 else None)
chosen true b d0 d1 e0 e1 p q = p
chosen false true d0 d1 e0 e1 p q = q
chosen false false d0 d1 e0 e1 p q = refl

in_drive : (s : State) (events : List Event) (number : ℕ) → Kept (disc_of number s) (disc_of number (history events s))
in_drive s events number =
    let end = history events s in
    let (p, q) = all events s in
    chosen (number == 0) (number == 1) s.drive0.disc s.drive1.disc end.drive0.disc end.drive1.disc p q

largest_is : (kind : Kind) → largest kind ≡ most kind
largest_is Ssd = refl
largest_is Dsd = refl

pub images_keep : ImagesKeepTheirKind
images_keep = record {
  disc = λ s events number d is. subst (λ x. Kept x (disc_of number (history events s))) is (in_drive s events number);
  none = λ s events number is. subst (λ x. Kept x (disc_of number (history events s))) is (in_drive s events number);
  size = largest_is;
}
