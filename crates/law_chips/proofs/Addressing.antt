-- Read address, event by event.
use Rattle.std.proofs.Common.{◌≡◌, ◌∙◌, sym, ap, subst, refl, ℕ, ◌+◌, ◌-◌, ◌*◌, ◌/◌, ◌%◌, ◌<◌, ◌≤◌, ◌==◌, ◌&&◌, min, Bool, true, false, List, [], ◌∷◌, ◌++◌}
use Rattle.std.proofs.Common.{take, arith, inl, inr}
use Rattle.std.specs.Prelude.{Option, Some, nat_lt, nat_le, slice_index, if◌then◌else◌}
use Rattle.std.proofs.lemmas.Bool.{cases_eq, cases_lt, eq-eqb, ne_eqb, lt-ltb, le-ltb, le-leb, lt-leb, true≢false}
use Rattle.std.proofs.lemmas.List.{append-nil}
use Rattle.disc_image.specs.Image.{Image}
use Rattle.wd1770.specs.declared.drive.Target.{Target}
use Rattle.wd1770.specs.declared.command.Command.{Command}
use Rattle.wd1770.specs.declared.command.Command.TheVariants.{Idle, SeekingAddress, GivingAddress}
use Rattle.wd1770.specs.State.{State}
use Rattle.wd1770.specs.Select.{is_single_density, disc_in, target_selected}
use Rattle.wd1770.specs.Ends.{is_asking, count_leaves}
use Rattle.wd1770.specs.Sectors.{is_on_disc, places_into}
use Rattle.wd1770.specs.Addresses.{address_of, is_address, address_bytes, address_at}
use Rattle.wd1770.specs.Commands.{command_of}
use Rattle.wd1770.specs.Registers.{read_leaves, write_leaves}
use Rattle.wd1770.specs.Step.{next_angle, command_step, work_leaves, step}
use Rattle.wd1770.specs.History.{Event, happens, history, count_steps}
use Rattle.law_chips.specs.SectorReads.{bytes_taken}
use Rattle.law_chips.specs.Searches.{Waits, AllWait}
use Rattle.law_chips.specs.LostData.{accesses}
use Rattle.law_chips.specs.AddressReads.{address_steps, IsAtAddress, is_taken, ComesNext, IsAsked, HasAddress, AddressIsRead}
use Rattle.law_chips.proofs.Reading.{same_disc, moved_on, next_place, at_each}
use Rattle.law_chips.proofs.Streams.{Accessed, IsAccess, is_data, waiting, waits_read, lets_go, runs_all}
use Rattle.law_chips.proofs.Streams.{has_place, Stream, Next, GoesOn, Either, run}
use Rattle.law_chips.proofs.Streams.{Taking, IsGiven, takes_step, takes_access, takes_first}
use Rattle.law_chips.proofs.Begun.{begun}
use Rattle.law_chips.proofs.Waiting.{small_angle, Waited, CountsFrom, waits_from}

-- a step of the command
worked : (s : State) (target : Target) (k m : ℕ) → k < 10 → m < 896 → s.command ≡ GivingAddress target k → s.angle ≡ Some (64 * (312 * k) + m) →
    work_leaves s ≡ address_at target k (places_into k (64 * (312 * k) + m + 1)) (moved_on s k m)
unfolding moved_on
worked s target k m few inside goes at = grind arith

at_byte : (place : ℕ) → 7 ≤ place → place ≤ 12 → (nat_le 7 place && nat_le place 12) ≡ true
at_byte place low high = rw (le-leb 7 place low, le-leb place 12 high)

before_bytes : (place : ℕ) → place < 7 → (nat_le 7 place && nat_le place 12) ≡ false
before_bytes place early = rw (lt-leb 7 place early)

behind_bytes : (place : ℕ) → 12 < place → (nat_le 7 place && nat_le place 12) ≡ false
behind_bytes place late = grind arith

-- ---- The places that are in time

-- The ID field of sector `k`.
abbrev of_address : Target → ℕ → Stream
of_address target k = record {
  command = GivingAddress target k;
  base = 64 * (312 * k);
  first = 7;
  l = 5;
  last = 14;
  gives = λ s i. slice_index (address_bytes target k) i;
  Over = λ x. (x.command ≡ Idle) × (x.sector ≡ target.head);
}

-- no byte comes, and the command continues
quiet : (target : Target) (k : ℕ) (s : State) (m : ℕ) → m < 896 → s.command ≡ GivingAddress target k → (m + 1 ≡ 896 → ⊥) →
    ((m + 1) % 64 ≡ 0 → 7 ≤ (m + 1) / 64 → (m + 1) / 64 ≤ 7 + 5 → ⊥) → Next (of_address target k) s (moved_on s k m) m
unfolding moved_on
quiet target k s m inside is early none = grind arith

at_place : (target : Target) (k : ℕ) (s : State) (m : ℕ) → m < 896 → (m + 1) % 64 ≡ 0 → s.command ≡ GivingAddress target k →
    Next (of_address target k) s (address_at target k (Some ((m + 1) / 64)) (moved_on s k m)) m
unfolding moved_on
at_place target k s m inside is_place is =
    let place = (m + 1) / 64 in
    elim (cases_lt place 7) [
      | inl early ↦
          rw (before_bytes place early, ne_eqb place 14 (λ e. omega arith))
          (quiet target k s m inside is (λ e. omega arith) (λ h low high. omega arith))
      | inr late ↦
          elim (cases_lt 12 place) [
            | inr low ↦
                rw (at_byte place late low) (record {
                  command = λ h. is;
                  over = λ h. absurd (omega arith);
                  angle = next_place k m;
                  drive0 = refl;
                  drive1 = refl;
                  byte = λ h l high. (refl, refl, refl);
                  none = λ h. absurd (h is_place late low);
                })
            | inl high ↦
                elim (cases_eq place 14) [
                  | inl end ↦
                      rw (behind_bytes place high, eq-eqb place 14 end) (record {
                        command = λ h. absurd (omega arith);
                        over = λ h. (refl, refl);
                        angle = next_place k m;
                        drive0 = refl;
                        drive1 = refl;
                        byte = λ h low over. absurd (omega arith);
                        none = λ h. (refl, refl, refl);
                      })
                  | inr other ↦
                      rw (behind_bytes place high, ne_eqb place 14 other)
                      (quiet target k s m inside is (λ e. other (omega arith)) (λ h low over. omega arith))
                ]
          ]
    ]

address_goes : (target : Target) (k : ℕ) → k < 10 → GoesOn (of_address target k)
unfolding moved_on
address_goes target k few s m inside is at =
    at_each (address_at target k) (λ x. Next (of_address target k) s x m) k m (moved_on s k m) (work_leaves s) (worked s target k m few inside is at)
    (λ place. at_place target k s m inside place is) (λ none. quiet target k s m inside is (λ e. none (omega arith)) (λ h low high. none h))

after_address : (s : State) (target : Target) (k : ℕ) (events : List Event) → IsAtAddress s target k → k < 10 → AllWait events → count_steps events ≤ 896 →
    Either (of_address target k) (history events s) (count_steps events) (accesses 0 events)
after_address s target k events at few all most =
    run (of_address target k) (address_goes target k few) (omega arith) events s (lets_go waiting s events all) (omega arith)
    at.command at.angle at.lost at.drq

-- ---- The bytes that are taken

read_keeps : (reg : ℕ) (s : State) → (read_leaves reg s).sector ≡ s.sector
read_keeps reg s = grind arith

-- A program that waits does not undo the end.
over_kept : (target : Target) (e : Event) (s : State) → IsAccess e → Waits e → Accessed (is_data e) s (happens e s) →
    (s.command ≡ Idle) × (s.sector ≡ target.head) →
    ((happens e s).command ≡ Idle) × ((happens e s).sector ≡ target.head)
over_kept target e s access may acc over = grind arith

takes : (s : State) (target : Target) (k : ℕ) (events : List Event) → IsAtAddress s target k → k < 10 → AllWait events → count_steps events ≤ 896 →
    Taking (of_address target k) (address_bytes target k) s (history events s) (count_steps events) (bytes_taken s events)
takes s target k events at few all most =
    let f = of_address target k in
    let bytes = address_bytes target k in
    let given : IsGiven f bytes s = record {
      goes = address_goes target k few;
      some = omega arith;
      long = refl;
      gives = λ x i a b. refl;
      counted = λ b x over. over;
    } in
    runs_all waiting (Taking f bytes s) 896 (λ x m got inside is. takes_step f bytes s x m got given inside is)
    (λ e x m got access may acc is. takes_access f bytes s e x m got (waits_read e may) acc (over_kept target e x access may acc) is)
    (count_steps events) events s all refl most (takes_first f bytes s (omega arith) at.command at.angle at.drq)

-- DRQ is clear at the end, and nothing was lost
record Served (s : State) : Type 0 where
  pub kept : s.lost_data ≡ false
  pub off : s.drq ≡ false

served : (s : State) (target : Target) (k : ℕ) (events : List Event) → IsAtAddress s target k → k < 10 → AllWait events → count_steps events ≡ 896 →
    ((i : ℕ) → i < 6 → is_taken i events ≡ true) → Served (history events s)
unfolding has_place
served s target k events at few all count in_time = elim (after_address s target k events at few all (omega arith)) [
  | inl fine ↦ record { kept = fine.kept; off = fine.last_taken (omega arith) (in_time 5 (omega arith)) }
  | inr missed ↦ absurd (true≢false (sym (in_time missed.byte (omega arith)) ∙ missed.missed))
]

whole : (s : State) (target : Target) (k : ℕ) (events : List Event) → IsAtAddress s target k → k < 10 → AllWait events → count_steps events ≡ address_steps →
    ((i : ℕ) → i < 6 → is_taken i events ≡ true) → HasAddress target k events s
whole s target k events at few all count in_time =
    let end = served s target k events at few all count in_time in
    let is = takes s target k events at few all (omega arith) in
    record {
      bytes =
          sym (append-nil (bytes_taken s events))
          ∙ ap (λ b. bytes_taken s events ++ (if b then (history events s).byte ∷ [] else [])) (sym end.off) ∙ is.taken end.kept
          ∙ ap (λ m. take (min 6 (m / 64 - 6)) (address_bytes target k)) count;
      sector = (is.over (omega arith)).1;
      over = (is.over (omega arith)).0;
      kept = end.kept;
    }

told : (s : State) (target : Target) (k : ℕ) (events : List Event) → IsAtAddress s target k → k < 10 → AllWait events → count_steps events ≤ address_steps →
    (i : ℕ) → i < 5 → 64 * (8 + i) ≤ count_steps events → is_taken i events ≡ false → (history events s).lost_data ≡ true
unfolding has_place
told s target k events at few all most i inside over missed = elim (after_address s target k events at few all most) [
  | inl fine ↦ absurd (true≢false (sym (fine.served i inside (omega arith)) ∙ missed))
  | inr lost ↦ lost.lost
]

-- ---- The search.

asked_for : Target → ℕ → Command
asked_for target m = SeekingAddress target (1000000 - m)

address_command : (v : ℕ) (s : State) → 0xC0 ≤ v → v < 0xD0 → command_of v s ≡ address_of s
address_command v s low high = grind (arith, le-ltb, lt-ltb)

-- If one sector of a track is on the disc, exactly the ten of the track are.
on_disc_so : (o : Option Image) (target : Target) (k : ℕ) → is_on_disc o target 0 ≡ true → is_on_disc o target k ≡ nat_lt k 10
on_disc_so o target k is = grind arith

and_false_twice : (a b : Bool) → (a && b && false) ≡ false
and_false_twice a b = grind arith

and_false_between : (a b : Bool) → (a && false && b) ≡ false
and_false_between true b = refl
and_false_between false b = refl

-- no sector begins in the step after `m` steps
looks_on : (s0 : State) (target : Target) (k n : ℕ) → n < 200000 → is_on_disc (disc_in target.drive s0) target 0 ≡ true → ComesNext s0 k n →
    CountsFrom s0 (asked_for target) n
unfolding asked_for
looks_on s0 target k n inside has next s m early w =
    let angle = next_angle s.angle in
    let s1 : State = record s { angle = Some angle } in
    let none : is_address target angle s1 ≡ false =
    elim (cases_eq (angle % (64 * 312)) 0) [
      | inl starts ↦
          let number = angle / (64 * 312) in
          let big : 10 ≤ number = elim (cases_lt number 10) [
            | inl few ↦
                let here : (next_angle s0.angle + m) % 200000 ≡ 64 * (312 * number) = omega arith in
                absurd (next.none_before m number early few here)
            | inr many ↦ many
          ] in
          let off : is_on_disc (disc_in target.drive s1) target number ≡ false =
          ap (λ o. is_on_disc o target number) (same_disc target.drive s1 s0 w.drive0 w.drive1) ∙ on_disc_so (disc_in target.drive s0) target number has
          ∙ le-ltb number 10 big in
          rw off (and_false_twice (is_single_density s.latch) (angle % (64 * 312) == 0))
      | inr other ↦
          rw (ne_eqb (angle % (64 * 312)) 0 other) (and_false_between (is_single_density s.latch) _)
    ] in
    let less : 1000000 - m - 1 ≡ 1000000 - (m + 1) = omega arith in
    ap (λ c. command_step c angle s1) w.command ∙ rw (none, lt-ltb 1 (1000000 - m) (omega arith), less)

-- the step at which a sector begins
finds : (s0 s : State) (target : Target) (k n : ℕ) → n < 200000 → is_single_density s0.latch ≡ true → is_on_disc (disc_in target.drive s0) target 0 ≡ true →
    s0.drq ≡ false → s0.lost_data ≡ false → ComesNext s0 k n → Waited s0 (asked_for target n) s n → IsAtAddress (step s) target k
unfolding asked_for
finds s0 s target k n inside density has off kept next w =
    let angle = next_angle s.angle in
    let s1 : State = record s { angle = Some angle } in
    let now : angle ≡ 64 * (312 * k) = w.angle ∙ next.begins in
    let starts : angle % (64 * 312) ≡ 0 = omega arith in
    let which : angle / (64 * 312) ≡ k = omega arith in
    let on : is_on_disc (disc_in target.drive s1) target (angle / (64 * 312)) ≡ true =
    ap (λ o. is_on_disc o target (angle / (64 * 312))) (same_disc target.drive s1 s0 w.drive0 w.drive1)
    ∙ on_disc_so (disc_in target.drive s0) target (angle / (64 * 312)) has ∙ ap (λ n. nat_lt n 10) which ∙ lt-ltb k 10 next.number in
    let found : is_address target angle s1 ≡ true =
    ap (λ l. is_single_density l && (angle % (64 * 312) == 0) && is_on_disc (disc_in target.drive s1) target (angle / (64 * 312))) w.latch
    ∙ rw (density, eq-eqb (angle % (64 * 312)) 0 starts) on in
    let is : work_leaves s ≡ record s1 { command = GivingAddress target k } =
    ap (λ c. command_step c angle s1) w.command ∙ rw (found, which) in
    subst (λ x. IsAtAddress (count_leaves (is_asking s) x) target k) (sym is)
    (record { command = refl; angle = ap (λ (n : ℕ). Some n) now; drq = w.drq off; lost = w.lost ∙ kept })

next : (s : State) (v k n : ℕ) (waits : List Event) → 0xC0 ≤ v → v < 0xD0 → n < 200000 → IsAsked s waits n → ComesNext (write_leaves 0 v s) k n →
    IsAtAddress (step (history waits (write_leaves 0 v s))) (target_selected s) k
unfolding asked_for
next s v k n waits low high inside is comes =
    let target = target_selected s in
    let s0 = write_leaves 0 v s in
    let written = begun v s is.idle is.live (λ e. omega arith) in
    let all : 1000000 ≡ 1000000 - 0 = omega arith in
    let command : s0.command ≡ SeekingAddress target (1000000 - 0) =
    ap (λ (x : State). x.command) written ∙ address_command v s low high ∙ ap (SeekingAddress target) all in
    let has : is_on_disc (disc_in target.drive s0) target 0 ≡ true =
    ap (λ o. is_on_disc o target 0) (same_disc target.drive s0 s (cc) (cc)) ∙ is.on_disc in
    let w = waits_from (asked_for target) n s0 (looks_on s0 target k n inside has comes) waits is.wait (omega arith) command in
    finds s0 (history waits s0) target k n inside (cc) has
    (cc) (cc) comes
    (subst (λ i. Waited s0 (asked_for target i) (history waits s0) i) is.waited w)

-- the next sector
some_next : (s : State) → (k : ℕ) × (n : ℕ) × (n < 20288) × ComesNext s k n
some_next s =
    let a = next_angle s.angle in
    let small = small_angle s.angle in
    elim (cases_lt 179712 a) [
      | inl late ↦
          let n = 200000 - a in (
            0,
            n,
            omega arith,
            record {
              number = omega arith;
              begins = omega arith;
              none_before = λ i j early few e. omega arith;
            },
          )
      | inr low ↦
          let k = (a + 19967) / 19968 in
          let n = 19968 * k - a in (
            k,
            n,
            omega arith,
            record {
              number = omega arith;
              begins = omega arith;
              none_before = λ i j early few e. omega arith;
            },
          )
    ]

pub address_is_read : AddressIsRead
address_is_read = record { whole = whole; told = told; some = some_next; next = next }
