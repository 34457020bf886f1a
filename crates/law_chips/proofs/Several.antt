-- Several sectors in one command, one after the other, that are read or written.
use Rattle.std.proofs.Common.{◌≡◌, ◌∙◌, sym, ap, subst, refl, ℕ, ◌+◌, ◌-◌, ◌*◌, ◌/◌, ◌%◌, ◌<◌, ◌≤◌, ◌==◌, Bool, true, false, List, [], ◌∷◌, ◌++◌, length}
use Rattle.std.proofs.Common.{arith, inl, inr, ◌≢◌}
use Rattle.std.specs.Prelude.{Option, None, Some, if◌then◌else◌, map}
use Rattle.std.proofs.lemmas.Bool.{cases_eq, eq-eqb, ne_eqb}
use Rattle.disc_image.specs.declared.Kind.{Kind}
use Rattle.disc_image.specs.Image.{Image, has_sector, sector_bytes, sides, place, byte_at, sector_of}
use Rattle.wd1770.specs.declared.command.Command.TheVariants.{Idle, Transferring}
use Rattle.wd1770.specs.declared.command.Transfer.{Transfer}
use Rattle.wd1770.specs.State.{State}
use Rattle.wd1770.specs.Select.{is_single_density, disc_in}
use Rattle.wd1770.specs.Ends.{is_asking, count_leaves}
use Rattle.wd1770.specs.Sectors.{search_of, is_byte_place, places_into, sector_ended, byte_came, byte_on_disc, reading_at, transfer_step}
use Rattle.wd1770.specs.Sectors.{written_in, byte_written, writing_at}
use Rattle.wd1770.specs.Step.{work_leaves, step}
use Rattle.wd1770.specs.History.{Event, happens, history, count_steps}
use Rattle.law_chips.specs.SectorReads.{AllRead, bytes_taken, IsAtSector, HasBytes, sector_steps}
use Rattle.law_chips.specs.Searches.{Waits, AllWait, has_match}
use Rattle.law_chips.specs.SeveralSectors.{Round, round_end, bytes_of, IsTimely, bytes_from, IsReading, Gives, SectorsFollow, AllGive, GivesInTime, IsWriting}
use Rattle.law_chips.specs.SeveralSectors.{HasAll, IsOutside, SectorsAreWritten}
use Rattle.law_chips.proofs.Reading.{same_disc, at_each, moved_on, worked_is, reads_is, behind_bytes, of_sector, is_given, at_start}
use Rattle.law_chips.proofs.Streams.{IsAccess, waiting, waits_read, runs_all, Program, writing, writes_let, lets_go}
use Rattle.law_chips.proofs.Streams.{Taking, takes_step, takes_access}
use Rattle.law_chips.proofs.Search.{search_found, within_turn}
use Rattle.law_chips.proofs.Timely.{served, whole}
use Rattle.std.specs.List.{range_with_len}
use Rattle.std.proofs.lemmas.List.FromFn.{fill_by_all, length-map-range_with_len, get_or-map-range_with_len}
use Rattle.disc_image.specs.Laws.{IsReadBack, OthersStay}
use Rattle.wd1770.specs.declared.drive.DriveNumber.{DriveNumber}
use Rattle.wd1770.specs.declared.drive.Target.{Target}
use Rattle.law_chips.specs.SectorWrites.{Writes, AllWritten, given_by, bytes_given}
use Rattle.law_chips.proofs.Losing.{kept_before}
use Rattle.law_chips.proofs.Writing.{at_byte, Inside, w_end, writes_is, stepped as write_stepped, accessed as write_accessed, begins, whole as write_whole}
use Rattle.law_chips.proofs.Writing.{off_at_end}
use Rattle.law_chips.proofs.Timely.{writes_kept}

-- ---- The registers.

pub record Regs (s x : State) : Type 0 where
  pub latch : x.latch ≡ s.latch
  pub track : x.track ≡ s.track
  pub sector : x.sector ≡ s.sector

pub either : (b : Bool) (s x y : State) → Regs s x → Regs s y → Regs s (if b then x else y)
either true s x y p q = p
either false s x y p q = q

-- after m steps of sector k
pub record Kept (s0 s : State) (m : ℕ) : Type 0 where
  pub latch : s.latch ≡ s0.latch
  pub track : s.track ≡ s0.track
  pub sector : m < 18432 → s.sector ≡ s0.sector
  pub next : 18432 ≤ m → s.sector ≡ (s0.sector + 1) % 256

-- a step that leaves the registers
plain : (s0 s x : State) (m : ℕ) → m + 1 < 18432 → Regs s x → Kept s0 s m → Kept s0 x (m + 1)
plain s0 s x m inside regs is = grind arith

ends_so : (s0 : State) (t : Transfer) (k : ℕ) (s : State) (m : ℕ) → t.multiple ≡ true → m + 1 ≡ 18432 → Kept s0 s m →
    Kept s0 (sector_ended t (moved_on s k m)) (m + 1)
unfolding moved_on
ends_so s0 t k s m many end is = grind arith

before_end : (m : ℕ) → m < 18432 → ((m + 1) % 64 ≡ 0 → (m + 1) / 64 ≡ 288 → ⊥) → m + 1 < 18432
before_end m inside other = grind arith

-- the work of a command at its places
pub record Leaves (t : Transfer) (at : Option ℕ → State → State) : Type 0 where
  pub none : (s : State) → at None s ≡ s
  pub others : (place : ℕ) (s : State) → (place ≡ 288 → ⊥) → Regs s (at (Some place) s)
  pub ends : (place : ℕ) (s : State) → place ≡ 288 → at (Some place) s ≡ sector_ended t s

-- a step of a command
pub kept_step : (t : Transfer) (k : ℕ) (at : Option ℕ → State → State) → Leaves t at → k < 10 → t.multiple ≡ true → (s0 s : State) (m : ℕ) → m < 18432 →
    s.command ≡ Transferring t k → s.angle ≡ Some (64 * (312 * k) + m) →
    transfer_step t k (64 * (312 * k) + m + 1) (moved_on s k m) ≡ at (places_into k (64 * (312 * k) + m + 1)) (moved_on s k m) →
    Kept s0 s m → Kept s0 (step s) (m + 1)
unfolding moved_on
kept_step t k at leaves few many s0 s m inside going angle by is =
    let s1 = moved_on s k m in
    let To : State → Type 0 = λ x. Kept s0 (count_leaves (is_asking s) x) (m + 1) in
    let counted : (x : State) → Kept s0 x (m + 1) → To x = λ x h. assumption in
    at_each at To k m s1 (work_leaves s) (worked_is s t k m few inside going angle ∙ by)
    (λ passes_by.
    let place = (m + 1) / 64 in
    elim (cases_eq place 288) [
      | inl end ↦ subst To (sym (leaves.ends place s1 end)) (counted (sector_ended t s1) (ends_so s0 t k s m many (omega arith) is))
      | inr other ↦
          let regs = leaves.others place s1 other in
          counted (at (Some place) s1) (plain s0 s (at (Some place) s1) m (before_end m inside (λ h e. other e))
          (assumption) is)
    ])
    (λ none. subst To (sym (leaves.none s1))
    (counted s1 (plain s0 s s1 m (before_end m inside (λ h e. none h)) (assumption) is)))

pub kept_access : (s0 : State) (e : Event) (s : State) (m : ℕ) → IsAccess e → Gives e → Kept s0 s m → Kept s0 (happens e s) m
kept_access s0 e s m access may is = grind arith

pub kept_first : (s : State) → Kept s s 0
kept_first s = grind arith

waits_give : (e : Event) → Waits e → Gives e
waits_give e may = grind arith

-- the work of a sector that is read
reading_leaves : (t : Transfer) (k : ℕ) → Leaves t (reading_at t k)
reading_leaves t k = record {
  none = λ s. refl;
  others = λ place s other.
      either (is_byte_place 31 place) s (byte_came (byte_on_disc (disc_in t.target.drive s) t.target k (place - 31)) s)
      (if place == 288 then sector_ended t s else s)
      (assumption)
      (subst (λ b. Regs s (if b then sector_ended t s else s)) (sym (ne_eqb place 288 other)) (assumption));
  ends = λ place s end. rw (behind_bytes place (omega arith), eq-eqb place 288 end);
}

reads_only : (events : List Event) → AllWait events → AllRead events
reads_only [] all = tt
reads_only (e ∷ es) all = (waits_read e all.0, reads_only es all.1)

-- the disc has the sector
pub has_it : (d : Image) (t : Transfer) (k : ℕ) → k < 10 → has_sector d.kind t.target.side t.target.head 0 ≡ true →
    has_sector d.kind t.target.side t.target.head k ≡ true
has_it d t k few has = grind arith

-- there is a sector for the search
pub matches : (s : State) (t : Transfer) (d : Image) → is_single_density s.latch ≡ true → t.target.head ≡ s.track → disc_in t.target.drive s ≡ Some d →
    has_sector d.kind t.target.side t.target.head 0 ≡ true → s.sector < 10 → has_match t s ≡ true
matches s t d density track disc on_disc few = grind arith

-- One sector of several.
record Done (s : State) (t : Transfer) (d : Image) (round : Round) : Type 0 where
  pub bytes : bytes_taken (history round.waits s) round.serves ≡ sector_bytes d t.target.side t.target.head s.sector
  pub goes_on : IsReading (round_end round s) t d
  pub sector : (round_end round s).sector ≡ s.sector + 1

one : (s : State) (t : Transfer) (d : Image) (round : Round) → IsReading s t d → s.sector < 10 → IsTimely round s → Done s t d round
one s t d round is few timely =
    let k = s.sector in
    let s1 = history round.waits s in
    let s2 = history round.serves s1 in
    let found =
    search_found s t 1000001 round.waits is.command (within_turn s 1000001 (omega arith)) (matches s t d is.density is.track is.disc is.on_disc few) timely.wait timely.waited in
    let at : IsAtSector s1 t k = record { command = found.command; angle = found.angle; drq = found.drq is.drq } in
    let disc1 : disc_in t.target.drive s1 ≡ Some d = same_disc t.target.drive s1 s found.drive0 found.drive1 ∙ is.disc in
    let bytes = sector_bytes d t.target.side t.target.head k in
    let has : HasBytes s1 t k d bytes = record {
      disc = disc1;
      sector = ap (λ b. if b then Some bytes else None) (has_it d t k few is.on_disc);
    } in
    let all = reads_only round.serves timely.read in
    let lost = found.lost ∙ is.lost in
    let end = served s1 t k round.serves at few lost is.reads all timely.count timely.in_time in
    let f = of_sector t k in
    let both : Taking f bytes s1 s2 18432 (bytes_taken s1 round.serves) × Kept s1 s2 18432 =
    runs_all waiting (λ x m got. Taking f bytes s1 x m got × Kept s1 x m) 18432
    (λ x m got inside both. (
      takes_step f bytes s1 x m got (is_given s1 t k d bytes has is.reads) inside both.0,
      kept_step t k (reading_at t k) (reading_leaves t k) few is.multiple s1 x m inside (both.0.going inside) both.0.angle
          (reads_is t k (64 * (312 * k) + m + 1) (moved_on x k m) is.reads) both.1,
    ))
    (λ e x m got access may acc both. (
      takes_access f bytes s1 e x m got (waits_read e may) acc (λ over. acc.command ∙ over) both.0,
      kept_access s1 e x m access (waits_give e may) both.1,
    )) 18432 round.serves s1 timely.read timely.count (omega arith) (at_start s1 t k bytes at, kept_first s1) in
    let inside = both.0 in
    let kept = both.1 in
    let next_one : (s1.sector + 1) % 256 ≡ k + 1 = ap (λ n. (n + 1) % 256) found.sector ∙ let e : (k + 1) % 256 ≡ k + 1 = omega arith in e in
    record {
      bytes = whole s1 t k d bytes round.serves at has is.reads lost all timely.count timely.in_time;
      goes_on = record {
        command = inside.over (omega arith) ∙ ap (λ b. if b then search_of t else Idle) is.multiple;
        reads = is.reads;
        multiple = is.multiple;
        density = cc;
        track = cc;
        disc = same_disc t.target.drive s2 s1 inside.drive0 inside.drive1 ∙ disc1;
        on_disc = is.on_disc;
        drq = end.off;
        lost = end.kept;
      };
      sector = kept.next (omega arith) ∙ next_one;
    }

pub sectors_follow : SectorsFollow
sectors_follow s t d [] is inside timely = record {
  bytes = refl;
  goes_on = is;
  sector = omega arith;
}
sectors_follow s t d (round ∷ rounds) is inside timely =
    let more : length (round ∷ rounds) ≡ length rounds + 1 = omega arith in
    let done = one s t d round is (omega arith) timely.0 in
    let s2 = round_end round s in
    let rest = sectors_follow s2 t d rounds done.goes_on (omega arith) timely.1 in
    record {
      bytes =
          ap (λ xs. xs ++ bytes_of rounds s2) done.bytes
          ∙ ap (λ xs. sector_bytes d t.target.side t.target.head s.sector ++ xs) (rest.bytes ∙ ap (λ n. bytes_from d t.target n rounds) done.sector);
      goes_on = rest.goes_on;
      sector = rest.sector ∙ omega arith;
    }

-- ---- The registers.

put_keeps : (number : Option DriveNumber) (target : Target) (k i v : ℕ) (s : State) → Regs s (written_in number target k i v s)
put_keeps number target k i v s = grind arith

byte_keeps : (target : Target) (k i : ℕ) (s : State) → Regs s (byte_written target k i s)
byte_keeps target k i s = grind arith

-- at any place except the end
place_keeps : (t : Transfer) (k place : ℕ) (s : State) → (place ≡ 288 → ⊥) → Regs s (writing_at t k (Some place) s)
place_keeps t k place s other = grind (arith, ne_eqb, either, byte_keeps)

-- the work of a sector that is written
writing_leaves : (t : Transfer) (k : ℕ) → Leaves t (writing_at t k)
writing_leaves t k = grind (arith, place_keeps, w_end)

-- both, as long as nothing is lost
record Both (s0 : State) (d : Image) (t : Transfer) (k : ℕ) (s : State) (m : ℕ) (bytes : List ℕ) : Type 0 where
  pub inside : Inside d t k s m bytes
  pub kept : Kept s0 s m

-- a program that gives bytes, and writes no other register
abbrev giving : Program
giving = record {
  may = λ s e. Writes s e × Gives e;
  all = λ s es. AllWritten s es × AllGive es;
  out = λ s m e. given_by e;
  outs = λ s m es. bytes_given es;
  parts = λ s e es all. ((all.0.0, all.1.0), (all.0.1, all.1.1));
  lets = λ s e may. writes_let s e may.0;
  quiet = λ s m. refl;
  none = λ s m. refl;
  more = λ s m e es. refl;
}

-- ---- One sector of several.

-- after all steps of a sector
gives_all : (back : IsReadBack) (others : OthersStay) (s : State) (d : Image) (t : Transfer) (k : ℕ) (events : List Event) → k < 10 →
    has_sector d.kind t.target.side t.target.head k ≡ true → t.writes ≡ true → t.multiple ≡ true → IsAtSector s t k → disc_in t.target.drive s ≡ Some d →
    AllWritten s events → AllGive events → count_steps events ≡ sector_steps → (history events s).lost_data ≡ false →
    Both s d t k (history events s) 18432 (bytes_given events)
gives_all back others s d t k events few has writes many at disc written gives count kept =
    let Within : State → ℕ → List ℕ → Type 0 = λ x m bytes. x.lost_data ≡ false → Both s d t k x m bytes in
    runs_all giving Within 18432
    (λ x m bytes inside b lost. let both = b (kept_before x lost) in record {
      inside = write_stepped back others d t k x m bytes few has writes inside both.inside lost;
      kept =
          kept_step t k (writing_at t k) (writing_leaves t k) few many s x m inside (both.inside.going inside) both.inside.angle
          (writes_is t k (64 * (312 * k) + m + 1) (moved_on x k m) writes) both.kept;
    })
    (λ e x m bytes access may acc b lost. let both = b (sym acc.lost ∙ lost) in record {
      inside = write_accessed d t k e x m bytes access may.0 acc both.inside;
      kept = kept_access s e x m access may.1 both.kept;
    })
    18432 events s (written, gives) count (omega arith) (λ l. record { inside = begins d t k s at disc; kept = kept_first s }) kept

record Stored (s : State) (t : Transfer) (d : Image) (round : Round) : Type 0 where
  pub now : Image
  pub goes_on : IsWriting (round_end round s) t now
  pub sector : (round_end round s).sector ≡ s.sector + 1
  pub stored : sector_of now t.target.side t.target.head s.sector ≡ Some (bytes_given round.serves)
  pub others : (n : ℕ) → ((i : ℕ) → i < 256 → n ≢ place d.kind t.target.side t.target.head s.sector i) → byte_at now n ≡ byte_at d n
  pub kind : now.kind ≡ d.kind

-- a disc of the same kind has the sector
same_sectors : (a b : Kind) (target : Target) → a ≡ b → has_sector b target.side target.head 0 ≡ true → has_sector a target.side target.head 0 ≡ true
same_sectors a b target same is = grind arith

-- a disc is in the drive once
of_disc : (o : Option Image) (a b : Image) (target : Target) (k : ℕ) (bytes : List ℕ) → o ≡ Some a → o ≡ Some b →
    sector_of a target.side target.head k ≡ Some bytes →
    sector_of b target.side target.head k ≡ Some bytes
of_disc o a b target k bytes is_a is_b has = grind arith

one_written : (back : IsReadBack) (others : OthersStay) (s : State) (t : Transfer) (d : Image) (round : Round) → IsWriting s t d → s.sector < 10 →
    GivesInTime round s →
    Stored s t d round
unfolding at_byte
one_written back others s t d round is few timely =
    let k = s.sector in
    let s1 = history round.waits s in
    let s2 = history round.serves s1 in
    let found =
    search_found s t 1000001 round.waits is.command (within_turn s 1000001 (omega arith)) (matches s t d is.density is.track is.disc is.on_disc few) timely.wait timely.waited in
    let at : IsAtSector s1 t k = record { command = found.command; angle = found.angle; drq = found.drq is.drq } in
    let disc1 : disc_in t.target.drive s1 ≡ Some d = same_disc t.target.drive s1 s found.drive0 found.drive1 ∙ is.disc in
    let has = has_it d t k few is.on_disc in
    let lost = found.lost ∙ is.lost in
    let end : s2.lost_data ≡ false =
    writes_kept s1 t k round.serves at few lost is.writes (lets_go writing s1 round.serves timely.written) (omega arith)
    (λ i over. timely.in_time i over.byte) in
    let both : Both s1 d t k s2 18432 (bytes_given round.serves) =
    gives_all back others s1 d t k round.serves few has is.writes is.multiple at disc1 timely.written timely.gives timely.count end in
    let stored = write_whole d t k s2 (bytes_given round.serves) has both.inside in
    let now = both.inside.now in
    let next_one : (s1.sector + 1) % 256 ≡ k + 1 = ap (λ n. (n + 1) % 256) found.sector ∙ let e : (k + 1) % 256 ≡ k + 1 = omega arith in e in
    record {
      now = now;
      goes_on = record {
        command = both.inside.over (omega arith) ∙ ap (λ b. if b then search_of t else Idle) is.multiple;
        writes = is.writes;
        multiple = is.multiple;
        density = cc;
        track = cc;
        disc = both.inside.disc;
        on_disc = same_sectors both.inside.now.kind d.kind t.target both.inside.kind is.on_disc;
        drq = off_at_end d t k s2 (bytes_given round.serves) both.inside;
        lost = end;
      };
      sector = both.kept.next (omega arith) ∙ next_one;
      stored = of_disc (disc_in t.target.drive s2) stored.now both.inside.now t.target k (bytes_given round.serves) stored.disc both.inside.disc stored.sector;
      others = both.inside.others;
      kind = both.inside.kind;
    }

-- ---- A sector stays while others are written.

apart_places : (sides side track k j i i' : ℕ) → i < 256 → i' < 256 → k < j →
    256 * (10 * (sides * track + side) + k) + 0 + i ≡ 256 * (10 * (sides * track + side) + j) + i' → ⊥
apart_places sides side track k j i i' low low' other e = omega arith

same_bytes : (f g : ℕ → ℕ) → ((i : ℕ) → i < 256 → g i ≡ f i) → map g (range_with_len 0 256) ≡ map f (range_with_len 0 256)
same_bytes f g h =
    fill_by_all f (map g (range_with_len 0 256)) 256 0 (length-map-range_with_len g 0 256)
    (λ i low. get_or-map-range_with_len g 0 256 i i 0 low (omega arith) ∙ h i low)

sector_stays : (before after : Image) (target : Target) (k many : ℕ) → after.kind ≡ before.kind →
    ((n : ℕ) → IsOutside before target (k + 1) many n → byte_at after n ≡ byte_at before n) →
    sector_of after target.side target.head k ≡ sector_of before target.side target.head k
sector_stays before after target k many kind same =
    let side = target.side in
    let head = target.head in
    let f : ℕ → ℕ = λ i. byte_at before (place before.kind side head k 0 + i) in
    let g : ℕ → ℕ = λ i. byte_at after (place before.kind side head k 0 + i) in
    ap (λ kind. if has_sector kind side head k then Some (map (λ i. byte_at after (place kind side head k 0 + i)) (range_with_len 0 256)) else None) kind
    ∙ ap (λ xs. if has_sector before.kind side head k then Some xs else None) (same_bytes f g (λ i low.
    same (place before.kind side head k 0 + i) (λ j i' from to low' e. apart_places (sides before.kind) side head k j i i' low low' (omega arith) e)))

pub sectors_are_written : (back : IsReadBack) (others : OthersStay) → SectorsAreWritten
sectors_are_written back others s t d [] is inside timely = record {
  now = d;
  goes_on = is;
  sector = omega arith;
  stored = tt;
  others = λ n out. refl;
  kind = refl;
}
sectors_are_written back others s t d (round ∷ rounds) is inside timely =
    let more : length (round ∷ rounds) ≡ length rounds + 1 = omega arith in
    let k = s.sector in
    let done = one_written back others s t d round is (omega arith) timely.0 in
    let s2 = round_end round s in
    let next = done.sector in
    let rest = sectors_are_written back others s2 t done.now rounds done.goes_on (omega arith) timely.1 in
    let rest_others : (n : ℕ) → IsOutside done.now t.target (k + 1) (length rounds) n → byte_at rest.now n ≡ byte_at done.now n =
    λ n out. rest.others n (λ j i from to low. out j i (omega arith) (omega arith) low) in
    record {
      now = rest.now;
      goes_on = rest.goes_on;
      sector = rest.sector ∙ omega arith;
      stored = (
        sector_stays done.now rest.now t.target k (length rounds) rest.kind rest_others ∙ done.stored,
        subst (λ n. HasAll rest.now t.target n rounds) next rest.stored,
      );
      others = λ n out.
          rest_others n (λ j i from to low e.
          out j i (omega arith) (omega arith) low (e ∙ ap (λ kind. place kind t.target.side t.target.head j i) done.kind))
          ∙ done.others n (λ i low. out k i (omega arith) (omega arith) low);
      kind = rest.kind ∙ done.kind;
    }
