-- Lost data during a sector, and sectors that are read or written in time.
use Rattle.std.proofs.Common.{◌≡◌, ◌∙◌, sym, ap, subst, refl, ℕ, ◌+◌, ◌-◌, ◌*◌, ◌/◌, ◌%◌, ◌^◌, ◌<◌, ◌≤◌, ◌==◌, ◌&&◌, ◌||◌, not, Bool, true, false, List, [], ◌∷◌}
use Rattle.std.proofs.Common.{◌++◌, arith, inl, inr, ◌⊎◌}
use Rattle.std.specs.Prelude.{Some, nat_lt, if◌then◌else◌, Option}
use Rattle.std.specs.List.{list_any}
use Rattle.std.proofs.lemmas.Bool.{cases_Bool, cases_eq, cases_lt, eq-eqb, ne_eqb, lt-ltb, le-ltb, lt-leb, true≢false, and_parts, ltb-true}
use Rattle.std.proofs.lemmas.List.{append-nil}
use Rattle.wd1770.specs.declared.command.Command.TheVariants.{Idle, Transferring}
use Rattle.wd1770.specs.declared.command.Transfer.{Transfer}
use Rattle.wd1770.specs.State.{State}
use Rattle.wd1770.specs.Ends.{is_asking, count_leaves, finish_leaves}
use Rattle.wd1770.specs.Sectors.{search_of, byte_written, writing_at, transfer_of, is_on_disc}
use Rattle.wd1770.specs.Step.{work_leaves, step}
use Rattle.wd1770.specs.History.{Event, happens, history, count_steps}
use Rattle.law_chips.specs.SectorReads.{sector_steps, IsAtSector, AllRead, bytes_taken, HasBytes, command_behind}
use Rattle.law_chips.specs.LostData.{AllLetGo, place_if, accesses, is_in_time, time_over, IsOver, is_served, LostDataIsTold}
use Rattle.law_chips.proofs.Reading.{moved_on, next_place, worked_is, at_each, of_sector, sector_goes, number_small, sector_read}
use Rattle.law_chips.proofs.Writing.{by_place, put, writes_is, sector_written}
use Rattle.law_chips.proofs.Streams.{has_place, any_stays, any_other, any_now, or_true, stays_lost, Either as Taken, run as reads_run}
use Rattle.law_chips.proofs.Streams.{Accessed, is_data, letting_go, runs_all, reading, lets_go, writing}
use Rattle.disc_image.specs.Image.{Image, has_sector}
use Rattle.law_chips.specs.InTime.{IsInTime, IsFound, found_after, ReadsInTime, WritesInTime}
use Rattle.law_chips.proofs.Begun.{is_read, starts, is_write}
use Rattle.disc_image.specs.Laws.{IsReadBack, OthersStay}
use Rattle.wd1770.specs.Select.{disc_in}
use Rattle.law_chips.specs.SectorWrites.{AllWritten, bytes_given, IsStored}
use Rattle.law_chips.specs.WholeReads.{SearchedAndRead}
use Rattle.law_chips.proofs.Search.{search_ends, within_turn}

-- byte i was given
given : ℕ → List ℕ → Bool
given i ps = list_any (is_in_time true i) ps

-- true if DRQ asks for a byte at this place
wants : ℕ → List ℕ → Bool
wants place ps = if nat_lt place 12 then false else if nat_lt place 22 then not (given 0 ps) else if nat_lt place 30 then false else not (has_place place ps)

wants_none : (place : ℕ) (ps : List ℕ) → place < 12 → wants place ps ≡ false
unfolding wants
wants_none place ps low = rw (lt-ltb place 12 low)

wants_first : (place : ℕ) (ps : List ℕ) → 12 ≤ place → place < 22 → wants place ps ≡ not (given 0 ps)
unfolding wants
wants_first place ps low high = rw (le-ltb place 12 low, lt-ltb place 22 high)

wants_no_more : (place : ℕ) (ps : List ℕ) → 22 ≤ place → place < 30 → wants place ps ≡ false
unfolding wants
wants_no_more place ps low high = grind arith

wants_next : (place : ℕ) (ps : List ℕ) → 30 ≤ place → wants place ps ≡ not (has_place place ps)
unfolding wants
wants_next place ps low = grind arith

-- a byte after the first is given at one place
given_in : (i place : ℕ) (ps : List ℕ) → 1 ≤ i → place ≡ 29 + i → given i ps ≡ has_place place ps
unfolding given has_place
given_in i place ps some is = grind arith

over_next : (i : ℕ) → 1 ≤ i → time_over true i ≡ 30 + i
over_next i some = ap (λ b. if b then 22 else 30 + i) (ne_eqb i 0 (λ e. omega arith))

-- after its time a byte is not given
not_in_time : (i place : ℕ) → time_over true i ≤ place → is_in_time true i place ≡ false
not_in_time i place over = grind arith

-- After m steps, and accesses in these places, nothing is lost and each byte was given.
record Fine (t : Transfer) (k : ℕ) (s : State) (m : ℕ) (ps : List ℕ) : Type 0 where
  pub command : m < 18432 → s.command ≡ Transferring t k
  pub angle : s.angle ≡ Some (64 * (312 * k) + m)
  pub kept : s.lost_data ≡ false
  pub drq : m < 64 * 285 → s.drq ≡ wants (m / 64) ps
  pub served : (i : ℕ) → i < 256 → 64 * time_over true i ≤ m → given i ps ≡ true
  pub ahead : (p : ℕ) → m / 64 < p → has_place p ps ≡ false
  pub early : m / 64 < 12 → given 0 ps ≡ false

-- A byte was not given, and lost data is set.
record Missed (s : State) (m : ℕ) (ps : List ℕ) : Type 0 where
  pub lost : s.lost_data ≡ true
  pub byte : ℕ
  pub inside : byte < 256
  pub over : 64 * time_over true byte ≤ m
  pub missed : given byte ps ≡ false

abbrev Either : Transfer → ℕ → State → ℕ → List ℕ → Type 0
Either t k s m ps = Fine t k s m ps ⊎ Missed s m ps

counted : (t : Transfer) (k : ℕ) (before : Bool) (s : State) (m : ℕ) (ps : List ℕ) → Either t k s m ps → Either t k (count_leaves before s) m ps
counted t k before s m ps is = grind arith

-- the time of no byte ends with this step
NoneOver : ℕ → Type 0
NoneOver m = (i : ℕ) → i < 256 → 64 * time_over true i ≤ m + 1 → 64 * time_over true i ≤ m

over_cases : (i : ℕ) → ((i ≡ 0) × (time_over true i ≡ 22)) ⊎ ((1 ≤ i) × (time_over true i ≡ 30 + i))
over_cases i = grind arith

none_over : (m : ℕ) → (m + 1 ≡ 64 * 22 → ⊥) → ((i : ℕ) → 1 ≤ i → i < 256 → m + 1 ≡ 64 * (30 + i) → ⊥) → NoneOver m
unfolding NoneOver
none_over m not_first not_next i inside over = elim (over_cases i) [
  | inl first ↦
      elim (cases_lt m (64 * time_over true i)) [
        | inl new ↦ absurd (not_first (omega arith))
        | inr old ↦ old
      ]
  | inr next ↦
      elim (cases_lt m (64 * time_over true i)) [
        | inl new ↦ absurd (not_next i next.0 inside (omega arith))
        | inr old ↦ old
      ]
]

-- a step that changes only the angle and DRQ, and ends the time of no byte
plain : (t : Transfer) (k : ℕ) (s x : State) (m : ℕ) (ps : List ℕ) → NoneOver m → (m + 1 < 18432 → x.command ≡ Transferring t k) →
    x.angle ≡ Some (64 * (312 * k) + m + 1) → x.lost_data ≡ s.lost_data → (m + 1 < 64 * 285 → x.drq ≡ wants ((m + 1) / 64) ps) → Fine t k s m ps →
    Fine t k x (m + 1) ps
unfolding NoneOver
plain t k s x m ps none command angle kept drq is = grind arith

-- no byte comes at another place before the bytes
same_wants : (m : ℕ) (ps : List ℕ) → (m + 1 ≡ 64 * 12 → ⊥) → (m + 1 ≡ 64 * 22 → ⊥) → m + 1 < 64 * 30 → wants ((m + 1) / 64) ps ≡ wants (m / 64) ps
same_wants m ps not_12 not_22 early = grind (arith, wants_none, wants_first, wants_no_more)

-- DRQ is set for the first byte
asks_first : (t : Transfer) (k : ℕ) (s : State) (m : ℕ) (ps : List ℕ) → m + 1 ≡ 64 * 12 → Fine t k s m ps →
    Fine t k (record (moved_on s k m) { drq = true }) (m + 1) ps
unfolding moved_on
asks_first t k s m ps now is = grind (arith, plain, none_over, wants_first)

-- place 22
looks : (t : Transfer) (k : ℕ) (s : State) (m : ℕ) (ps : List ℕ) → m + 1 ≡ 64 * 22 → s.drq ≡ false → given 0 ps ≡ true → Fine t k s m ps →
    Fine t k (moved_on s k m) (m + 1) ps
unfolding moved_on
looks t k s m ps now off had is = grind (arith, next_place, wants_no_more, over_cases)

-- the first byte was given exactly if DRQ does not ask for it any more
first_asked : (t : Transfer) (k : ℕ) (s : State) (m : ℕ) (ps : List ℕ) (b : Bool) → m + 1 ≡ 64 * 22 → s.drq ≡ b → Fine t k s m ps → given 0 ps ≡ not b
first_asked t k s m ps b now drq is = grind (arith, wants_first)

-- byte i is written
byte_goes : (t : Transfer) (k : ℕ) (s : State) (m i : ℕ) (ps : List ℕ) → i < 256 → m + 1 ≡ 64 * (30 + i) → Fine t k s m ps →
    Either t k (byte_written t.target k i (moved_on s k m)) (m + 1) ps
unfolding moved_on
byte_goes t k s m i ps inside now is =
    let s1 = moved_on s k m in
    let p = put t.target t.target.drive k i (if s.drq then 0 else s.byte) s1 in
    let fine : s.drq ≡ false → given i ps ≡ true → Fine t k (byte_written t.target k i s1) (m + 1) ps =
    λ off had. record {
      command = λ h. p.command ∙ is.command (omega arith);
      angle = p.angle ∙ next_place k m;
      kept = ap (λ b. b || s.drq) is.kept ∙ off;
      drq = λ h.
          let set : (i == 255) ≡ false = ne_eqb i 255 (λ e. omega arith) in
          ap (λ b. b || not (i == 255)) off ∙ ap not set
          ∙ sym (wants_next ((m + 1) / 64) ps (omega arith) ∙ ap not (is.ahead ((m + 1) / 64) (omega arith)));
      served = λ j few over. elim (cases_eq j i) [
        | inl same ↦ ap (λ n. given n ps) same ∙ had
        | inr other ↦
            is.served j few (elim (over_cases j) [
              | inl first ↦ omega arith
              | inr next ↦ omega arith
            ])
      ];
      ahead = λ q more. is.ahead q (omega arith);
      early = λ low. absurd (omega arith);
    } in
    elim (cases_eq i 0) [
      | inl zero ↦
          let off : s.drq ≡ false = is.drq (omega arith) ∙ wants_no_more (m / 64) ps (omega arith) (omega arith) in
          inl (fine off (ap (λ n. given n ps) zero ∙ is.served 0 (omega arith) (omega arith)))
      | inr some ↦
          let more : 1 ≤ i = omega arith in
          let where_it_is : m / 64 ≡ 29 + i = omega arith in
          let was : s.drq ≡ not (given i ps) =
          is.drq (omega arith) ∙ wants_next (m / 64) ps (omega arith) ∙ ap not (sym (given_in i (m / 64) ps more where_it_is)) in
          elim (cases_Bool (given i ps)) [
            | inl had ↦ inl (fine (was ∙ ap not had) had)
            | inr none ↦
                let on : s.drq ≡ true = was ∙ ap not none in
                inr (record {
                  lost = ap (λ b. s.lost_data || b) on ∙ or_true s.lost_data;
                  byte = i;
                  inside = inside;
                  over = omega (arith, over_next i more);
                  missed = none;
                })
          ]
    ]

ends_so : (b : Bool) (t : Transfer) (k : ℕ) (s : State) (m : ℕ) (ps : List ℕ) → m + 1 ≡ 18432 → Fine t k s m ps →
    Fine t k (if b then record (moved_on s k m) { sector = ((moved_on s k m).sector + 1) % 256; command = search_of t } else finish_leaves (moved_on s k m))
    (m + 1) ps
unfolding moved_on
ends_so b t k s m ps now is = grind arith

at_place : (t : Transfer) (k : ℕ) (s : State) (m : ℕ) (ps : List ℕ) → m < 18432 → (m + 1) % 64 ≡ 0 → Fine t k s m ps →
    Either t k (writing_at t k (Some ((m + 1) / 64)) (moved_on s k m)) (m + 1) ps
unfolding moved_on
at_place t k s m ps inside is_place is =
    let place = (m + 1) / 64 in
    let s1 = moved_on s k m in
    by_place (λ x. Either t k x (m + 1) ps) t k place s1 (λ first. inl (asks_first t k s m ps (omega arith) is))
    (λ look on.
    let missed = first_asked t k s m ps true (omega arith) on is in
    inr (record { lost = refl; byte = 0; inside = omega arith; over = omega arith; missed = missed }))
    (λ late low. byte_goes t k s m (place - 30) ps (omega arith) (omega arith) is)
    (λ end. inl (ends_so t.multiple t k s m ps (omega arith) is))
    (λ not_first off where_it_is other. inl (elim (cases_eq place 22) [
      | inl look ↦
          let now : m + 1 ≡ 64 * 22 = omega arith in looks t k s m ps now (off look) (first_asked t k s m ps false now (off look) is) is
      | inr no_look ↦
          elim where_it_is [
            | inl early ↦
                plain t k s s1 m ps (none_over m (λ e. no_look (omega arith)) (λ i some few e. omega arith)) (λ h. is.command inside) refl refl
                (λ h. is.drq (omega arith) ∙ sym
                (same_wants m ps (λ e. not_first (omega arith)) (λ e. no_look (omega arith)) (omega arith))) is
            | inr high ↦
                plain t k s s1 m ps (none_over m (λ e. no_look (omega arith)) (λ i some few e. omega arith))
                (λ h. is.command inside) refl refl
                (λ h. absurd (omega arith)) is
          ]
    ]))

-- a step at no place
at_none : (t : Transfer) (k : ℕ) (s : State) (m : ℕ) (ps : List ℕ) → m < 18432 → ((m + 1) % 64 ≡ 0 → ⊥) → Fine t k s m ps → Fine t k (moved_on s k m) (m + 1) ps
unfolding moved_on
at_none t k s m ps inside none is = grind arith

stepped : (t : Transfer) (k : ℕ) → k < 10 → t.writes ≡ true → (s : State) (m : ℕ) (ps : List ℕ) → m < 18432 → Either t k s m ps → Either t k (step s) (m + 1) ps
unfolding moved_on
stepped t k few writes s m ps inside (inl is) =
    let s1 = moved_on s k m in
    counted t k (is_asking s) (work_leaves s) (m + 1) ps
    (at_each (writing_at t k) (λ x. Either t k x (m + 1) ps) k m s1 (work_leaves s)
    (worked_is s t k m few inside (is.command inside) is.angle ∙ writes_is t k (64 * (312 * k) + m + 1) s1 writes)
    (λ place. at_place t k s m ps inside place is) (λ none. inl (at_none t k s m ps inside none is)))
stepped t k few writes s m ps inside (inr is) =
    inr (record { lost = stays_lost s is.lost; byte = is.byte; inside = is.inside; over = omega arith; missed = is.missed })

in_place_now : (m : ℕ) → 12 ≤ m / 64 → m / 64 < 22 → is_in_time true 0 (m / 64) ≡ true
in_place_now m low high = grind arith

-- DRQ is off after an access
wants_after : (m : ℕ) (ps : List ℕ) → wants (m / 64) (ps ++ m / 64 ∷ []) ≡ false
unfolding given has_place
wants_after m ps = grind (arith, wants_none, wants_first, any_now, in_place_now, wants_no_more, wants_next, eq-eqb)

accessed : (t : Transfer) (k : ℕ) (b : Bool) (s x : State) (m : ℕ) (ps : List ℕ) → Accessed b s x → Either t k s m ps → Either t k x m (ps ++ place_if b m)
unfolding given has_place
accessed t k true s x m ps acc (inl is) = inl (record {
  command = λ h. acc.command ∙ is.command h;
  angle = acc.angle ∙ is.angle;
  kept = acc.lost ∙ is.kept;
  drq = λ h. acc.drq ∙ sym (wants_after m ps);
  served = λ i inside over. any_stays (is_in_time true i) ps (m / 64) (is.served i inside over);
  ahead = λ p more. any_other (λ q. q == p) ps (m / 64) (is.ahead p more) (ne_eqb (m / 64) p (λ e. omega arith));
  early = λ low. any_other (is_in_time true 0) ps (m / 64) (is.early low) (ap (λ b. b && nat_lt (m / 64) 22) (lt-leb 12 (m / 64) low));
})
accessed t k false s x m ps acc (inl is) =
    subst (λ qs. Either t k x m qs) (sym (append-nil ps)) (inl (record {
      command = λ h. acc.command ∙ is.command h;
      angle = acc.angle ∙ is.angle;
      kept = acc.lost ∙ is.kept;
      drq = λ h. acc.drq ∙ is.drq h;
      served = is.served;
      ahead = is.ahead;
      early = is.early;
    }))
accessed t k true s x m ps acc (inr is) = inr (record {
  lost = acc.lost ∙ is.lost;
  byte = is.byte;
  inside = is.inside;
  over = is.over;
  missed = any_other (is_in_time true is.byte) ps (m / 64) is.missed (not_in_time is.byte (m / 64) (omega arith));
})
accessed t k false s x m ps acc (inr is) =
    subst (λ qs. Either t k x m qs) (sym (append-nil ps))
    (inr (record { lost = acc.lost ∙ is.lost; byte = is.byte; inside = is.inside; over = is.over; missed = is.missed }))

begins : (s : State) (t : Transfer) (k : ℕ) → IsAtSector s t k → s.lost_data ≡ false → Fine t k s 0 []
unfolding given has_place
begins s t k at kept = grind (arith, wants_none, over_cases)

after_writes : (s : State) (t : Transfer) (k : ℕ) (events : List Event) → IsAtSector s t k → k < 10 → s.lost_data ≡ false → t.writes ≡ true →
    AllLetGo events → count_steps events ≤ sector_steps → Either t k (history events s) (count_steps events) (accesses 0 events)
after_writes s t k events at few kept writes all most =
    runs_all letting_go (Either t k) 18432 (λ s m ps inside is. stepped t k few writes s m ps inside is)
    (λ e s m ps access may acc is. accessed t k (is_data e) s (happens e s) m ps acc is)
    (count_steps events) events s all refl most (inl (begins s t k at kept))

pub writes_kept : (s : State) (t : Transfer) (k : ℕ) (events : List Event) → IsAtSector s t k → k < 10 → s.lost_data ≡ false → t.writes ≡ true →
    AllLetGo events → count_steps events ≤ sector_steps → ((i : ℕ) → IsOver true i (count_steps events) → is_served true i events ≡ true) →
    (history events s).lost_data ≡ false
unfolding given
writes_kept s t k events at few kept writes all most served = grind (arith, after_writes, true≢false)

pub writes_told : (s : State) (t : Transfer) (k : ℕ) (events : List Event) → IsAtSector s t k → k < 10 → s.lost_data ≡ false → t.writes ≡ true →
    AllLetGo events → count_steps events ≤ sector_steps → (i : ℕ) → IsOver true i (count_steps events) → is_served true i events ≡ false →
    (history events s).lost_data ≡ true
unfolding given
writes_told s t k events at few kept writes all most i over missed = grind (arith, after_writes, true≢false)

pub after_reads : (s : State) (t : Transfer) (k : ℕ) (events : List Event) → IsAtSector s t k → k < 10 → s.lost_data ≡ false → t.writes ≡ false →
    AllLetGo events → count_steps events ≤ sector_steps →
    Taken (of_sector t k) (history events s) (count_steps events) (accesses 0 events)
after_reads s t k events at few kept reads all most =
    reads_run (of_sector t k) (sector_goes t k few reads) (omega arith) events s all (omega arith) at.command at.angle kept at.drq

kept_so : (b : Bool) (s : State) (t : Transfer) (k : ℕ) (events : List Event) → t.writes ≡ b → IsAtSector s t k → k < 10 → s.lost_data ≡ false →
    AllLetGo events → count_steps events ≤ sector_steps → ((i : ℕ) → IsOver b i (count_steps events) → is_served b i events ≡ true) →
    (history events s).lost_data ≡ false
unfolding has_place
kept_so true s t k events is at few kept all most served = writes_kept s t k events at few kept is all most served
kept_so false s t k events is at few kept all most served = elim (after_reads s t k events at few kept is all most) [
  | inl fine ↦ fine.kept
  | inr missed ↦
      absurd (true≢false (sym (served missed.byte (record { byte = missed.inside; over = omega arith })) ∙ missed.missed))
]

told_so : (b : Bool) (s : State) (t : Transfer) (k : ℕ) (events : List Event) → t.writes ≡ b → IsAtSector s t k → k < 10 → s.lost_data ≡ false →
    AllLetGo events → count_steps events ≤ sector_steps → (i : ℕ) → IsOver b i (count_steps events) → is_served b i events ≡ false →
    (history events s).lost_data ≡ true
unfolding has_place
told_so true s t k events is at few kept all most i over missed = writes_told s t k events at few kept is all most i over missed
told_so false s t k events is at few kept all most i over missed = elim (after_reads s t k events at few kept is all most) [
  | inl fine ↦ absurd (true≢false (sym (fine.served i over.byte (omega arith)) ∙ missed))
  | inr lost ↦ lost.lost
]

pub lost_data_is_told : LostDataIsTold
lost_data_is_told = record {
  kept = λ s t k events at few kept all most served. kept_so t.writes s t k events refl at few kept all most served;
  told = λ s t k events at few kept all most i over missed. told_so t.writes s t k events refl at few kept all most i over missed;
}

-- nothing is lost, and no byte waits
pub record Served (s : State) : Type 0 where
  pub kept : s.lost_data ≡ false
  pub off : s.drq ≡ false

pub served : (s : State) (t : Transfer) (k : ℕ) (events : List Event) → IsAtSector s t k → k < 10 → s.lost_data ≡ false → t.writes ≡ false →
    AllRead events → count_steps events ≡ sector_steps → IsInTime false events → Served (history events s)
unfolding has_place
served s t k events at few kept reads all count in_time =
    elim (after_reads s t k events at few kept reads (lets_go reading s events all) (omega arith)) [
      | inl fine ↦ record { kept = fine.kept; off = fine.last_taken (omega arith) (in_time 255 (omega arith)) }
      | inr missed ↦ absurd (true≢false (sym (in_time missed.byte (omega arith)) ∙ missed.missed))
    ]

pub whole : (s : State) (t : Transfer) (k : ℕ) (d : Image) (bytes : List ℕ) (events : List Event) →
    IsAtSector s t k → HasBytes s t k d bytes → t.writes ≡ false → s.lost_data ≡ false →
    AllRead events → count_steps events ≡ sector_steps → IsInTime false events → bytes_taken s events ≡ bytes
whole s t k d bytes events at has reads kept all count in_time =
    let end = served s t k events at (number_small d t.target.side t.target.head k bytes has.sector) kept reads all count in_time in
    sym (append-nil (bytes_taken s events))
    ∙ ap (λ b. bytes_taken s events ++ (if b then (history events s).byte ∷ [] else [])) (sym end.off)
    ∙ sector_read.whole s t k d bytes events at has reads all count end.kept

-- bit 4 of a command, by its high digit
one_sector : (v : ℕ) → v / 16 % 2 ≡ 0 → (v / 2 ^ 4 % 2 == 1) ≡ false
one_sector v is = grind arith

more_sectors : (v : ℕ) → v / 16 % 2 ≡ 1 → (v / 2 ^ 4 % 2 == 1) ≡ true
more_sectors v is = grind arith

-- the command after a sector that 8x or 9x reads
after_read : (s : State) (v : ℕ) (d : Image) (bytes : List ℕ) (settles waits reads : List Event) →
    0x80 ≤ v → v < 0xA0 → IsFound s v settles waits → HasBytes s (transfer_of v s) s.sector d bytes →
    AllRead reads → count_steps reads ≡ sector_steps →
    (history reads (found_after v settles waits s)).command ≡ command_behind (transfer_of v s)
after_read s v d bytes settles waits reads low high is has all count =
    let t = transfer_of v s in
    let found = starts s v settles waits low (omega arith) is in
    let s1 = found_after v settles waits s in
    let on_disc : HasBytes s1 t s.sector d bytes = record { disc = found.disc ∙ has.disc; sector = has.sector } in
    sector_read.end s1 t s.sector d bytes reads found.at on_disc (is_read v low high) all count

pub reads_in_time : ReadsInTime
reads_in_time = record {
  whole = whole;
  commanded = λ s v d bytes settles waits reads low high is has all count in_time.
      let t = transfer_of v s in
      let found = starts s v settles waits low (omega arith) is in
      let s1 = found_after v settles waits s in
      let on_disc : HasBytes s1 t s.sector d bytes = record { disc = found.disc ∙ has.disc; sector = has.sector } in
      whole s1 t s.sector d bytes reads found.at on_disc (is_read v low high) found.lost all count in_time;
  ends = λ s v d bytes settles waits reads low high is has all count.
      after_read s v d bytes settles waits reads low (omega arith) is has all count
      ∙ ap (λ b. if b then search_of (transfer_of v s) else Idle) (one_sector v (omega arith));
  goes_on = λ s v d bytes settles waits reads low high is has all count.
      after_read s v d bytes settles waits reads (omega arith) high is has all count
      ∙ ap (λ b. if b then search_of (transfer_of v s) else Idle) (more_sectors v (omega arith));
}

whole_written : (back : IsReadBack) (others : OthersStay) (s : State) (t : Transfer) (k : ℕ) (d : Image) (events : List Event) →
    IsAtSector s t k → disc_in t.target.drive s ≡ Some d → has_sector d.kind t.target.side t.target.head k ≡ true → t.writes ≡ true → s.lost_data ≡ false →
    AllWritten s events → count_steps events ≡ sector_steps → IsInTime true events →
    IsStored d t k (bytes_given events) (history events s) × ((history events s).command ≡ command_behind t)
whole_written back others s t k d events at here has writes kept all count in_time =
    let few : k < 10 = ltb-true k 10 (and_parts _ _ has).1 in
    let end : (history events s).lost_data ≡ false =
    writes_kept s t k events at few kept writes (lets_go writing s events all) (omega arith) (λ i over. in_time i over.byte) in
    let law = sector_written back others in
    (law.stored s t k d events at here has writes all count end, law.end s t k d events at here has writes all count end)

-- a disc in the drive has the sector
on_disc : (o : Option Image) (d : Image) (t : Transfer) (k : ℕ) → o ≡ Some d → is_on_disc o t.target k ≡ true →
    has_sector d.kind t.target.side t.target.head k ≡ true
on_disc o d t k is has = sym (ap (λ o. is_on_disc o t.target k) is) ∙ has

-- a sector that Ax or Bx writes, and the command after it
commanded_write : (back : IsReadBack) (others : OthersStay) (s : State) (v : ℕ) (d : Image) (settles waits writes : List Event) →
    0xA0 ≤ v → v < 0xC0 → IsFound s v settles waits → disc_in (transfer_of v s).target.drive s ≡ Some d →
    AllWritten (found_after v settles waits s) writes → count_steps writes ≡ sector_steps → IsInTime true writes →
    IsStored d (transfer_of v s) s.sector (bytes_given writes) (history writes (found_after v settles waits s))
    × ((history writes (found_after v settles waits s)).command ≡ command_behind (transfer_of v s))
commanded_write back others s v d settles waits writes low high is here all count in_time =
    let t = transfer_of v s in
    let found = starts s v settles waits (omega arith) high is in
    let s1 = found_after v settles waits s in
    let has : has_sector d.kind t.target.side t.target.head s.sector ≡ true =
    on_disc (disc_in t.target.drive s) d t s.sector here (and_parts _ _ (and_parts _ _ is.has).1).1 in
    whole_written back others s1 t s.sector d writes found.at (found.disc ∙ here) has (is_write v low high) found.lost all count in_time

pub writes_in_time : (back : IsReadBack) (others : OthersStay) → WritesInTime
writes_in_time back others = record {
  whole = whole_written back others;
  commanded = λ s v d settles waits writes low high is here all count in_time.
      (commanded_write back others s v d settles waits writes low high is here all count in_time).0;
  ends = λ s v d settles waits writes low high is here all count in_time.
      (commanded_write back others s v d settles waits writes low (omega arith) is here all count in_time).1
      ∙ ap (λ b. if b then search_of (transfer_of v s) else Idle) (one_sector v (omega arith));
  goes_on = λ s v d settles waits writes low high is here all count in_time.
      (commanded_write back others s v d settles waits writes (omega arith) high is here all count in_time).1
      ∙ ap (λ b. if b then search_of (transfer_of v s) else Idle) (more_sectors v (omega arith));
}

pub searched_and_read : SearchedAndRead
searched_and_read s t d bytes waits reads searches is_read has off bytes_are all_wait count all_read steps kept =
    let found = search_ends.found s t 1000001 waits searches (within_turn s 1000001 (omega arith)) has off all_wait count in
    let on_disc : HasBytes (history waits s) t s.sector d bytes = record { disc = found.1 ∙ bytes_are.disc; sector = bytes_are.sector } in
    sector_read.whole (history waits s) t s.sector d bytes reads found.0 on_disc is_read all_read steps kept
