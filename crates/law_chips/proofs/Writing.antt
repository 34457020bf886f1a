-- A sector that is written, event by event.
use Rattle.std.proofs.Common.{◌≡◌, ◌≢◌, ◌∙◌, sym, ap, subst, refl, ℕ, ◌+◌, ◌-◌, ◌*◌, ◌/◌, ◌%◌, ◌<◌, ◌≤◌, ◌==◌, ◌||◌, min, not, Bool, true}
use Rattle.std.proofs.Common.{◌⊎◌, false, List, [], ◌∷◌, ◌++◌, length, get_or, arith, inl, inr}
use Rattle.std.specs.Prelude.{Option, None, Some, if◌then◌else◌}
use Rattle.std.proofs.lemmas.Bool.{cases_eq, eq-eqb, eqb-true, ne_eqb, lt-ltb, le-leb, lt-leb, or_parts, and_parts, ltb-true}
use Rattle.std.proofs.lemmas.Bool.{true≢false}
use Rattle.std.proofs.lemmas.List.{append-nil, length_push, get_or_append_left, get_or_push}
use Rattle.std.proofs.lemmas.List.FromFn.{fill_by_all}
use Rattle.disc_image.specs.declared.Kind.{Kind}
use Rattle.disc_image.specs.Image.{Image, has_sector, place, byte_at, byte_put, sector_bytes}
use Rattle.disc_image.specs.Laws.{IsReadBack, OthersStay}
use Rattle.wd1770.specs.declared.drive.DriveNumber.{DriveNumber}
use Rattle.wd1770.specs.declared.drive.Target.{Target}
use Rattle.wd1770.specs.declared.command.Command.TheVariants.{Transferring}
use Rattle.wd1770.specs.declared.command.Transfer.{Transfer}
use Rattle.wd1770.specs.State.{State}
use Rattle.wd1770.specs.Select.{disc_in}
use Rattle.wd1770.specs.Ends.{is_asking, count_leaves, finish_leaves}
use Rattle.wd1770.specs.Commands.{latch_leaves}
use Rattle.wd1770.specs.Sectors.{places_into, is_byte_place, sector_ended, written_in, byte_written, writing_at, transfer_step}
use Rattle.wd1770.specs.Registers.{read_leaves, write_leaves}
use Rattle.wd1770.specs.Step.{work_leaves, step}
use Rattle.wd1770.specs.History.{Event, happens, microsecond, read, write, latch, history, count_steps}
use Rattle.law_chips.specs.SectorReads.{sector_steps, IsAtSector, command_behind}
use Rattle.law_chips.specs.SectorWrites.{Writes, AllWritten, given_by, bytes_given, IsStored, SectorIsWritten}
use Rattle.law_chips.proofs.Reading.{same_disc, moved_on, next_place, worked_is, at_each}
use Rattle.law_chips.proofs.Losing.{kept_before}
use Rattle.law_chips.proofs.Streams.{Accessed, IsAccess, is_data, writing, runs_all}

-- the number of bytes written `m` steps after the sector was found, and the number for which DRQ
-- was set
pub gone : ℕ → ℕ
gone m = min 256 (m / 64 - 29)

pub asked : ℕ → ℕ
asked m = min 256 (min 1 (m / 64 - 11) + min 256 (m / 64 - 29))

pub owed : Bool → ℕ
owed drq = if drq then 1 else 0

-- the state after the end of a sector
record Ended (t : Transfer) (s x : State) : Type 0 where
  pub command : x.command ≡ command_behind t
  pub angle : x.angle ≡ s.angle
  pub drive0 : x.drive0 ≡ s.drive0
  pub drive1 : x.drive1 ≡ s.drive1
  pub byte : x.byte ≡ s.byte
  pub drq : x.drq ≡ s.drq

-- the state after a byte is written
pub record Put (target : Target) (number : Option DriveNumber) (k i v : ℕ) (s x : State) : Type 0 where
  pub command : x.command ≡ s.command
  pub angle : x.angle ≡ s.angle
  pub byte : x.byte ≡ s.byte
  pub disc : (now : Image) → disc_in number s ≡ Some now → disc_in number x ≡ Some (byte_put target.side target.head k i v now)

pub put : (target : Target) (number : Option DriveNumber) (k i v : ℕ) (s : State) → Put target number k i v s (written_in number target k i v s)
put target number k i v s = grind arith

same_kind : (side track sector i v : ℕ) (d : Image) → (byte_put side track sector i v d).kind ≡ d.kind
same_kind side track sector i v d = grind arith

-- DRQ after a byte
owed_behind : (i : ℕ) (drq : Bool) → drq ≡ false → i < 256 → i + 1 + owed (drq || not (i == 255)) ≡ min 256 (i + 2)
unfolding owed
owed_behind i drq off low = grind arith

last_of : (i : ℕ) (drq : Bool) → (drq || not (i == 255)) ≡ false → i ≡ 255
last_of i drq off = grind arith

-- places of a sector differ
places_differ : (kind : Kind) (side track k i j : ℕ) → place kind side track k j ≡ place kind side track k i → j ≡ i
places_differ kind side track k i j e = omega arith

-- ---- The effect of a step at a place

byte_place : (place : ℕ) → 30 ≤ place → place < 286 → is_byte_place 30 place ≡ true
byte_place place low high = rw (le-leb 30 place low, lt-ltb place 286 high)

pub before_bytes : (place : ℕ) → place < 30 → is_byte_place 30 place ≡ false
before_bytes place early = rw (lt-leb 30 place early)

pub behind_bytes : (place : ℕ) → 286 ≤ place → is_byte_place 30 place ≡ false
behind_bytes place late = grind arith

-- A property of the state after a step at a place, for each place.
pub by_place : (P : State → Type 0) (t : Transfer) (k place : ℕ) (s : State) → (place ≡ 12 → P (record s { drq = true })) →
    (place ≡ 22 → s.drq ≡ true → P (finish_leaves (record s { lost_data = true }))) →
    (30 ≤ place → place < 286 → P (byte_written t.target k (place - 30) s)) → (place ≡ 288 → P (sector_ended t s)) →
    ((place ≡ 12 → ⊥) → (place ≡ 22 → s.drq ≡ false) → (place < 30) ⊎ (286 ≤ place) → (place ≡ 288 → ⊥) → P s) → P (writing_at t k (Some place) s)
by_place P t k place s first late byte end none = grind (arith, eq-eqb, and_parts, ne_eqb, eqb-true, before_bytes, byte_place, behind_bytes)

pub w_end : (t : Transfer) (k place : ℕ) (s : State) → place ≡ 288 → writing_at t k (Some place) s ≡ sector_ended t s
w_end t k place s is = grind arith

pub writes_is : (t : Transfer) (k angle : ℕ) (s : State) → t.writes ≡ true → transfer_step t k angle s ≡ writing_at t k (places_into k angle) s
writes_is t k angle s writes = grind arith

module _ (d : Image) (t : Transfer) (k : ℕ) where
  -- the place of a byte of the sector
  unfoldable pub at_byte : ℕ → ℕ
  at_byte i = place d.kind t.target.side t.target.head k i

  -- `m` steps after sector `k` of disc `d` was found; these bytes have been given
  pub record Inside (s : State) (m : ℕ) (bytes : List ℕ) : Type 0 where
    pub going : m < 18432 → s.command ≡ Transferring t k
    pub over : 18432 ≤ m → s.command ≡ command_behind t
    pub angle : s.angle ≡ Some (64 * (312 * k) + m)
    pub now : Image
    pub disc : disc_in t.target.drive s ≡ Some now
    pub kind : now.kind ≡ d.kind
    pub count : length bytes + owed s.drq ≡ asked m
    pub enough : gone m ≤ length bytes
    pub stored : (i : ℕ) → i < gone m → byte_at now (at_byte i) ≡ get_or bytes i 0
    pub pending : s.drq ≡ false → gone m < asked m → get_or bytes (gone m) 0 ≡ s.byte
    pub others : (n : ℕ) → ((i : ℕ) → i < 256 → n ≢ at_byte i) → byte_at now n ≡ byte_at d n

  counted_inside : (s : State) (m : ℕ) (bytes : List ℕ) (before : Bool) →
      Inside s m bytes → Inside (count_leaves before s) m bytes
  counted_inside s m bytes before is = grind arith

  -- A step that changes only the command, DRQ and the angle.
  plain : (s x : State) (m : ℕ) (bytes : List ℕ) → Inside s m bytes →
      (m + 1 < 18432 → x.command ≡ Transferring t k) → (18432 ≤ m + 1 → x.command ≡ command_behind t) → x.angle ≡ Some (64 * (312 * k) + m + 1) →
      x.drive0 ≡ s.drive0 → x.drive1 ≡ s.drive1 → x.byte ≡ s.byte → gone (m + 1) ≡ gone m → length bytes + owed x.drq ≡ asked (m + 1) →
      (x.drq ≡ false → gone m < asked (m + 1) → get_or bytes (gone m) 0 ≡ s.byte) →
      Inside x (m + 1) bytes
  plain s x m bytes is going over angle drive0 drive1 byte same count pending = grind arith

  -- no byte comes
  passes : (s : State) (m : ℕ) (bytes : List ℕ) → m < 18432 → gone (m + 1) ≡ gone m → asked (m + 1) ≡ asked m →
      (m + 1 ≡ 18432 → ⊥) → Inside s m bytes → Inside (moved_on s k m) (m + 1) bytes
  unfolding moved_on
  passes s m bytes inside same none early is = grind arith

  -- DRQ becomes set for the first byte
  asks_first : (s : State) (m : ℕ) (bytes : List ℕ) → m + 1 ≡ 768 → Inside s m bytes →
      Inside (record (moved_on s k m) { drq = true }) (m + 1) bytes
  unfolding moved_on gone asked owed
  asks_first s m bytes now is = grind arith

  ends_so : (s : State) (m : ℕ) (bytes : List ℕ) → m + 1 ≡ 18432 →
      Inside s m bytes → Inside (sector_ended t (moved_on s k m)) (m + 1) bytes
  unfolding moved_on gone asked owed
  ends_so s m bytes now is = grind arith

  -- ---- Accesses.

  -- an access of another register than the data register
  leaves_it : (s x : State) (m : ℕ) (bytes : List ℕ) → Accessed false s x → Inside s m bytes →
      Inside x m (bytes ++ [])
  leaves_it s x m bytes acc is = grind (arith, append-nil, same_disc)

  -- a byte is given while DRQ is set
  byte_given : (s : State) (v m : ℕ) (bytes : List ℕ) → s.drq ≡ true → Inside s m bytes →
      Inside (write_leaves 3 v s) m (bytes ++ v ∷ [])
  unfolding gone asked owed
  byte_given s v m bytes on is =
      let more : length (bytes ++ v ∷ []) ≡ length bytes + 1 = length_push bytes v in
      let all : length bytes + 1 ≡ asked m = ap (λ b. length bytes + owed b) (sym on) ∙ is.count in
      record {
        going = is.going;
        over = is.over;
        angle = is.angle;
        now = is.now;
        disc = same_disc t.target.drive (write_leaves 3 v s) s refl refl ∙ is.disc;
        kind = is.kind;
        count = ap (λ n. n + 0) more ∙ let e : length bytes + 1 + 0 ≡ length bytes + 1 = omega arith in e ∙ all;
        enough = omega arith;
        stored = λ i low. is.stored i low ∙ sym (get_or_append_left bytes (v ∷ []) 0 i (omega arith));
        pending = λ off fewer. get_or_push bytes v 0 (gone m) (omega arith);
        others = is.others;
      }

  -- an access of a program that gives bytes
  pub accessed : (e : Event) (s : State) (m : ℕ) (bytes : List ℕ) → IsAccess e → Writes s e → Accessed (is_data e) s (happens e s) →
      Inside s m bytes → Inside (happens e s) m (bytes ++ given_by e)
  accessed microsecond s m bytes access may acc is = absurd access
  accessed (read reg) s m bytes access may acc is =
      leaves_it s (read_leaves reg s) m bytes (subst (λ b. Accessed b s (read_leaves reg s)) (ne_eqb reg 3 (λ e. omega arith)) acc) is
  accessed (write reg v) s m bytes access may acc is = elim (cases_eq reg 3) [
    | inl three ↦
        subst (λ r. Inside (write_leaves r v s) m (bytes ++ given_by (write r v))) (sym three) (byte_given s v m bytes (may.2 three) is)
    | inr other ↦
        let off : (reg == 3) ≡ false = ne_eqb reg 3 other in
        subst (λ b. Inside (write_leaves reg v s) m (bytes ++ (if b then v ∷ [] else []))) (sym off)
        (leaves_it s (write_leaves reg v s) m bytes (subst (λ b. Accessed b s (write_leaves reg v s)) off acc) is)
  ]
  accessed (latch v) s m bytes access may acc is = leaves_it s (latch_leaves v s) m bytes acc is

  -- ---- Runs.

  -- the invariant of a run while nothing is lost
  abbrev Within : State → ℕ → List ℕ → Type 0
  Within s m bytes = s.lost_data ≡ false → Inside s m bytes

  pub begins : (s : State) → IsAtSector s t k → disc_in t.target.drive s ≡ Some d → Inside s 0 []
  unfolding gone asked owed
  begins s at here = grind arith

  -- the sector as it is then
  pub whole : (s : State) (bytes : List ℕ) → has_sector d.kind t.target.side t.target.head k ≡ true →
      Inside s 18432 bytes → IsStored d t k bytes s
  unfolding gone asked owed at_byte
  whole s bytes has is =
      let side = t.target.side in
      let head = t.target.head in
      let has_it : has_sector is.now.kind side head k ≡ true = ap (λ kind. has_sector kind side head k) is.kind ∙ has in
      let long : length bytes ≡ 256 = omega arith in
      let is_bytes : bytes ≡ sector_bytes is.now side head k =
      fill_by_all (λ i. byte_at is.now (place is.now.kind side head k 0 + i)) bytes 256 0 long
      (λ i low.
      let e : place d.kind side head k i ≡ place d.kind side head k 0 + i = omega arith in
      sym (is.stored i low) ∙ ap (byte_at is.now) (e ∙ ap (λ kind. place kind side head k 0 + i) (sym is.kind))) in
      record {
        now = is.now;
        disc = is.disc;
        sector = ap (λ b. if b then Some (sector_bytes is.now side head k) else None) has_it ∙ ap (λ (xs : List ℕ). Some xs) (sym is_bytes);
        others = is.others;
      }

  -- DRQ is off at the end
  pub off_at_end : (s : State) (bytes : List ℕ) → Inside s 18432 bytes → s.drq ≡ false
  unfolding gone asked owed
  off_at_end s bytes is = grind arith

-- Byte i is written.
byte_goes : (back : IsReadBack) (others : OthersStay) (d : Image) (t : Transfer) (k : ℕ) (s : State) (m i : ℕ) (bytes : List ℕ) →
    has_sector d.kind t.target.side t.target.head k ≡ true → m < 18432 → i < 256 → m + 1 ≡ 64 * (30 + i) → s.drq ≡ false → Inside d t k s m bytes →
    Inside d t k (byte_written t.target k i (moved_on s k m)) (m + 1) bytes
unfolding moved_on gone asked owed at_byte
byte_goes back others d t k s m i bytes has inside low now off is =
    let s1 = moved_on s k m in
    let v = if s.drq then 0 else s.byte in
    let side = t.target.side in
    let head = t.target.head in
    let p = put t.target t.target.drive k i v s1 in
    let has_it : has_sector is.now.kind side head k ≡ true = ap (λ kind. has_sector kind side head k) is.kind ∙ has in
    let here : gone m ≡ i = omega arith in
    let there : gone (m + 1) ≡ i + 1 = omega arith in
    let had : asked m ≡ i + 1 = omega arith in
    let wants : asked (m + 1) ≡ min 256 (i + 2) = omega arith in
    let long : length bytes ≡ i + 1 = sym (omega arith) ∙ ap (λ b. length bytes + owed b) (sym off) ∙ is.count ∙ had in
    let is_v : v ≡ s.byte = ap (λ b. if b then 0 else s.byte) off in
    let last : get_or bytes i 0 ≡ s.byte = ap (λ n. get_or bytes n 0) (sym here) ∙ is.pending off (omega arith) in
    record {
      going = λ h. p.command ∙ is.going inside;
      over = λ h. absurd (omega arith);
      angle = p.angle ∙ next_place k m;
      now = byte_put side head k i v is.now;
      disc =
          same_disc t.target.drive (byte_written t.target k i s1) (written_in t.target.drive t.target k i v s1) refl refl
          ∙ p.disc is.now (same_disc t.target.drive s1 s refl refl ∙ is.disc);
      kind = same_kind side head k i v is.now ∙ is.kind;
      count = ap (λ n. n + owed (s.drq || not (i == 255))) long ∙ owed_behind i s.drq off low ∙ sym wants;
      enough = omega arith;
      stored = λ j before. elim (cases_eq j i) [
        | inl same ↦
            ap (λ n. byte_at (byte_put side head k i v is.now) (place d.kind side head k n)) same
            ∙ ap (λ kind. byte_at (byte_put side head k i v is.now) (place kind side head k i)) (sym is.kind)
            ∙ back is.now side head k i v has_it low ∙ is_v ∙ sym last ∙ ap (λ n. get_or bytes n 0) (sym same)
        | inr other ↦
            others is.now side head k i v (place d.kind side head k j) has_it low
            (λ e. other (places_differ d.kind side head k i j (e ∙ ap (λ kind. place kind side head k i) is.kind)))
            ∙ is.stored j (omega arith)
      ];
      pending = λ none more. absurd (omega (arith, last_of i s.drq none));
      others = λ n apart.
          others is.now side head k i v n has_it low (λ e. apart i low (e ∙ ap (λ kind. place kind side head k i) is.kind)) ∙ is.others n apart;
    }

-- a step at a place that loses nothing
at_place : (back : IsReadBack) (others : OthersStay) (d : Image) (t : Transfer) (k : ℕ) (s : State) (m : ℕ) (bytes : List ℕ) →
    has_sector d.kind t.target.side t.target.head k ≡ true → m < 18432 → (m + 1) % 64 ≡ 0 → Inside d t k s m bytes →
    (writing_at t k (Some ((m + 1) / 64)) (moved_on s k m)).lost_data ≡ false →
    Inside d t k (writing_at t k (Some ((m + 1) / 64)) (moved_on s k m)) (m + 1) bytes
unfolding moved_on gone asked
at_place back others d t k s m bytes has inside is_place is =
    let place = (m + 1) / 64 in
    by_place (λ x. x.lost_data ≡ false → Inside d t k x (m + 1) bytes) t k place (moved_on s k m)
    (λ first kept. asks_first d t k s m bytes (omega arith) is) (λ late on kept. absurd (true≢false kept))
    (λ late low kept.
    byte_goes back others d t k s m (place - 30) bytes has inside (omega arith) (omega arith) (or_parts s.lost_data s.drq kept).1 is)
    (λ end kept. ends_so d t k s m bytes (omega arith) is)
    (λ not_first off where_it_is other kept. elim where_it_is [
      | inl early ↦
          passes d t k s m bytes inside (omega arith) (omega arith) (λ e. omega arith) is
      | inr high ↦ passes d t k s m bytes inside (omega arith) (omega arith) (λ e. other (omega arith)) is
    ])

pub stepped : (back : IsReadBack) (others : OthersStay) (d : Image) (t : Transfer) (k : ℕ) (s : State) (m : ℕ) (bytes : List ℕ) → k < 10 →
    has_sector d.kind t.target.side t.target.head k ≡ true → t.writes ≡ true → m < 18432 → Inside d t k s m bytes → (step s).lost_data ≡ false →
    Inside d t k (step s) (m + 1) bytes
unfolding moved_on gone asked
stepped back others d t k s m bytes few has writes inside is kept =
    let s1 = moved_on s k m in
    counted_inside d t k (work_leaves s) (m + 1) bytes (is_asking s)
    (at_each (writing_at t k) (λ x. x.lost_data ≡ false → Inside d t k x (m + 1) bytes) k m s1 (work_leaves s)
    (worked_is s t k m few inside (is.going inside) is.angle ∙ writes_is t k (64 * (312 * k) + m + 1) s1 writes)
    (λ place. at_place back others d t k s m bytes has inside place is)
    (λ none kept. passes d t k s m bytes inside (omega arith) (omega arith) (λ e. none (omega arith)) is) kept)

from_start : (back : IsReadBack) (others : OthersStay) (s : State) (t : Transfer) (k : ℕ) (d : Image) (events : List Event) →
    IsAtSector s t k → disc_in t.target.drive s ≡ Some d → has_sector d.kind t.target.side t.target.head k ≡ true → t.writes ≡ true →
    AllWritten s events → count_steps events ≡ sector_steps → (history events s).lost_data ≡ false → Inside d t k (history events s) 18432 (bytes_given events)
from_start back others s t k d events at here has writes all count kept =
    let few : k < 10 = ltb-true k 10 (and_parts _ _ has).1 in
    runs_all writing (Within d t k) 18432
    (λ x m bytes inside is lost. stepped back others d t k x m bytes few has writes inside (is (kept_before x lost)) lost)
    (λ e x m bytes access may acc is lost. accessed d t k e x m bytes access may acc (is (sym acc.lost ∙ lost)))
    18432 events s all count (omega arith) (λ h. begins d t k s at here) kept

pub sector_written : (back : IsReadBack) (others : OthersStay) → SectorIsWritten
sector_written back others = record {
  stored = λ s t k d events at here has writes all count kept.
      whole d t k (history events s) (bytes_given events) has (from_start back others s t k d events at here has writes all count kept);
  end = λ s t k d events at here has writes all count kept. (from_start back others s t k d events at here has writes all count kept).over (omega arith);
}
