-- A sector that is read, event by event.
use Rattle.std.proofs.Common.{◌≡◌, ◌∙◌, sym, ap, subst, refl, ℕ, ◌+◌, ◌-◌, ◌*◌, ◌/◌, ◌%◌, ◌<◌, ◌≤◌, Bool, true, false, List, [], length, take, arith, inl}
use Rattle.std.proofs.Common.{inr}
use Rattle.std.specs.Prelude.{Option, None, Some, slice_index, if◌then◌else◌}
use Rattle.std.proofs.lemmas.Bool.{cases_eq, cases_lt, eq-eqb, ne_eqb, lt-ltb, le-leb, lt-leb}
use Rattle.std.proofs.lemmas.List.{take_all}
use Rattle.disc_image.specs.Image.{Image, place, sector_of}
use Rattle.wd1770.specs.declared.drive.DriveNumber.{DriveNumber}
use Rattle.wd1770.specs.declared.command.Command.TheVariants.{Transferring}
use Rattle.wd1770.specs.declared.command.Transfer.{Transfer}
use Rattle.wd1770.specs.State.{State}
use Rattle.wd1770.specs.Select.{disc_in}
use Rattle.wd1770.specs.Ends.{finish_leaves}
use Rattle.wd1770.specs.Sectors.{search_of, places_into, is_byte_place, byte_on_disc, reading_at, transfer_step}
use Rattle.wd1770.specs.Step.{work_leaves}
use Rattle.wd1770.specs.History.{Event, history, count_steps}
use Rattle.law_chips.specs.SectorReads.{sector_steps, bytes_come, AllRead, bytes_taken, IsAtSector, HasBytes, command_behind, SectorIsRead}
use Rattle.law_chips.proofs.Streams.{reading, runs_all}
use Rattle.law_chips.proofs.Streams.{Stream, Next, GoesOn}
use Rattle.law_chips.proofs.Streams.{Taking, IsGiven, takes_step, takes_access}

pub same_disc : (number : Option DriveNumber) (s s0 : State) → s.drive0 ≡ s0.drive0 → s.drive1 ≡ s0.drive1 → disc_in number s ≡ disc_in number s0
same_disc number s s0 a b = grind arith

-- the place that passes
pub no_place : (k m : ℕ) → ((m + 1) % 64 ≡ 0 → ⊥) → places_into k (64 * (312 * k) + m + 1) ≡ None
no_place k m other = grind arith

pub a_place : (k m : ℕ) → (m + 1) % 64 ≡ 0 → places_into k (64 * (312 * k) + m + 1) ≡ Some ((m + 1) / 64)
a_place k m is = grind arith

-- the step after `m` steps is at the next angle
unfoldable pub moved_on : State → ℕ → ℕ → State
moved_on s k m = record s { angle = Some (64 * (312 * k) + m + 1) }

pub next_place : (k m : ℕ) → Some (64 * (312 * k) + m + 1) ≡ Some (64 * (312 * k) + (m + 1))
next_place k m = grind arith

-- a step of the command, if sector `k` is one of the ten of a track
pub worked_is : (s : State) (t : Transfer) (k m : ℕ) → k < 10 → m < 18432 → s.command ≡ Transferring t k → s.angle ≡ Some (64 * (312 * k) + m) →
    work_leaves s ≡ transfer_step t k (64 * (312 * k) + m + 1) (record s { angle = Some (64 * (312 * k) + m + 1) })
worked_is s t k m few inside goes at = grind arith

-- such a step, by the work at the places that pass
pub at_each : (at : Option ℕ → State → State) (To : State → Type 0) (k m : ℕ) (s x : State) → x ≡ at (places_into k (64 * (312 * k) + m + 1)) s →
    ((m + 1) % 64 ≡ 0 → To (at (Some ((m + 1) / 64)) s)) → (((m + 1) % 64 ≡ 0 → ⊥) → To (at None s)) → To x
at_each at To k m s x is passes_by none = elim (cases_eq ((m + 1) % 64) 0) [
  | inl place ↦ subst To (sym (is ∙ ap (λ p. at p s) (a_place k m place))) (passes_by place)
  | inr other ↦ subst To (sym (is ∙ ap (λ p. at p s) (no_place k m other))) (none other)
]

pub reads_is : (t : Transfer) (k angle : ℕ) (s : State) → t.writes ≡ false → transfer_step t k angle s ≡ reading_at t k (places_into k angle) s
reads_is t k angle s reads = grind arith

-- a place within the sector
pub at_byte : (place : ℕ) → 31 ≤ place → place < 287 → is_byte_place 31 place ≡ true
at_byte place low high = rw (le-leb 31 place low, lt-ltb place 287 high)

pub before_bytes : (place : ℕ) → place < 31 → is_byte_place 31 place ≡ false
before_bytes place early = rw (lt-leb 31 place early)

pub behind_bytes : (place : ℕ) → 287 ≤ place → is_byte_place 31 place ≡ false
behind_bytes place late = grind arith

-- The bytes of sector `k`.
abbrev pub of_sector : Transfer → ℕ → Stream
of_sector t k = record {
  command = Transferring t k;
  base = 64 * (312 * k);
  first = 31;
  l = 255;
  last = 288;
  gives = λ s i. byte_on_disc (disc_in t.target.drive s) t.target k i;
  Over = λ x. x.command ≡ command_behind t;
}

-- no byte comes, and the command continues
quiet : (t : Transfer) (k : ℕ) (s : State) (m : ℕ) → m < 18432 → s.command ≡ Transferring t k → (m + 1 ≡ 18432 → ⊥) →
    ((m + 1) % 64 ≡ 0 → 31 ≤ (m + 1) / 64 → (m + 1) / 64 ≤ 31 + 255 → ⊥) → Next (of_sector t k) s (moved_on s k m) m
unfolding moved_on
quiet t k s m inside is early none = grind arith

ends_so : (b : Bool) (t : Transfer) (k : ℕ) (s : State) (m : ℕ) → t.multiple ≡ b → (m + 1) / 64 ≡ 288 →
    Next (of_sector t k) s
    (if b then record (moved_on s k m) { sector = ((moved_on s k m).sector + 1) % 256; command = search_of t } else finish_leaves (moved_on s k m)) m
unfolding moved_on
ends_so b t k s m many end = grind arith

at_place : (t : Transfer) (k : ℕ) (s : State) (m : ℕ) → m < 18432 → (m + 1) % 64 ≡ 0 → s.command ≡ Transferring t k →
    Next (of_sector t k) s (reading_at t k (Some ((m + 1) / 64)) (moved_on s k m)) m
unfolding moved_on
at_place t k s m inside is_place is =
    let place = (m + 1) / 64 in
    elim (cases_lt place 31) [
      | inl early ↦
          rw (before_bytes place early, ne_eqb place 288 (λ e. omega arith))
          (quiet t k s m inside is (λ e. omega arith) (λ h low high. omega arith))
      | inr late ↦
          elim (cases_lt place 287) [
            | inl low ↦
                rw (at_byte place late low) (record {
                  command = λ h. is;
                  over = λ h. absurd (omega arith);
                  angle = next_place k m;
                  drive0 = refl;
                  drive1 = refl;
                  byte = λ h l high. (refl, refl, ap (λ o. byte_on_disc o t.target k (place - 31)) (same_disc t.target.drive (moved_on s k m) s refl refl));
                  none = λ h. absurd (h is_place late (omega arith));
                })
            | inr high ↦
                elim (cases_eq place 288) [
                  | inl end ↦ rw (behind_bytes place high, eq-eqb place 288 end) (ends_so t.multiple t k s m refl end)
                  | inr other ↦
                      rw (behind_bytes place high, ne_eqb place 288 other)
                      (quiet t k s m inside is (λ e. other (omega arith)) (λ h low over. omega arith))
                ]
          ]
    ]

pub sector_goes : (t : Transfer) (k : ℕ) → k < 10 → t.writes ≡ false → GoesOn (of_sector t k)
unfolding moved_on
sector_goes t k few reads s m inside is at =
    at_each (reading_at t k) (λ x. Next (of_sector t k) s x m) k m (moved_on s k m) (work_leaves s)
    (worked_is s t k m few inside is at ∙ reads_is t k (64 * (312 * k) + m + 1) (moved_on s k m) reads)
    (λ place. at_place t k s m inside place is) (λ none. quiet t k s m inside is (λ e. none (omega arith)) (λ h low high. none h))

-- A sector on a disc has a number below 10, and 256 bytes.
bytes_of : (b : Bool) (xs bytes : List ℕ) → (if b then Some xs else None) ≡ Some bytes → (b ≡ true) × (xs ≡ bytes)
bytes_of b xs bytes is = grind arith

pub number_small : (d : Image) (side track k : ℕ) (bytes : List ℕ) → sector_of d side track k ≡ Some bytes → k < 10
number_small d side track k bytes is = grind arith

pub bytes_long : (d : Image) (side track k : ℕ) (bytes : List ℕ) → sector_of d side track k ≡ Some bytes → length bytes ≡ 256
bytes_long d side track k bytes is = grind arith

all_come : (m : ℕ) (bytes : List ℕ) → m ≡ 18432 → length bytes ≡ 256 → take (bytes_come m) bytes ≡ bytes
all_come m bytes now long = grind (arith, take_all)

-- a disc with these bytes gives them
gives : (s0 : State) (t : Transfer) (k : ℕ) (d : Image) (bytes : List ℕ) (s : State) (i : ℕ) → HasBytes s0 t k d bytes → s.drive0 ≡ s0.drive0 →
    s.drive1 ≡ s0.drive1 →
    byte_on_disc (disc_in t.target.drive s) t.target k i ≡ slice_index bytes i
gives s0 t k d bytes s i has a b = grind arith

pub is_given : (s : State) (t : Transfer) (k : ℕ) (d : Image) (bytes : List ℕ) → HasBytes s t k d bytes → t.writes ≡ false → IsGiven (of_sector t k) bytes s
is_given s t k d bytes has reads = record {
  goes = sector_goes t k (number_small d t.target.side t.target.head k bytes has.sector) reads;
  some = omega arith;
  long = bytes_long d t.target.side t.target.head k bytes has.sector;
  gives = λ x i a b. gives s t k d bytes x i has a b;
  counted = λ b x over. over;
}

-- no byte has come when a sector is found
pub at_start : (s : State) (t : Transfer) (k : ℕ) (bytes : List ℕ) → IsAtSector s t k → Taking (of_sector t k) bytes s s 0 []
at_start s t k bytes at = grind arith

from_start : (s : State) (t : Transfer) (k : ℕ) (d : Image) (bytes : List ℕ) (events : List Event) → IsAtSector s t k → HasBytes s t k d bytes →
    t.writes ≡ false → AllRead events → count_steps events ≤ sector_steps → Taking (of_sector t k) bytes s (history events s) (count_steps events)
    (bytes_taken s events)
from_start s t k d bytes events at has reads all most =
    let f = of_sector t k in
    runs_all reading (Taking f bytes s) 18432 (λ x m got inside is. takes_step f bytes s x m got (is_given s t k d bytes has reads) inside is)
    (λ e x m got access may acc is. takes_access f bytes s e x m got may acc (λ over. acc.command ∙ over) is)
    (count_steps events) events s all refl most (at_start s t k bytes at)

pub sector_read : SectorIsRead
sector_read = record {
  so_far = λ s t k d bytes events at has reads all most kept. (from_start s t k d bytes events at has reads all most).taken kept;
  whole = λ s t k d bytes events at has reads all count kept.
      (from_start s t k d bytes events at has reads all (omega arith)).taken kept
      ∙ all_come (count_steps events) bytes count (bytes_long d t.target.side t.target.head k bytes has.sector);
  end = λ s t k d bytes events at has reads all count.
      (from_start s t k d bytes events at has reads all (omega arith)).over (omega arith);
}
