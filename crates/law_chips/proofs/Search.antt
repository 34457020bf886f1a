-- A search, step by step.
use Rattle.std.proofs.Common.{◌≡◌, ◌∙◌, sym, ap, subst, refl, ℕ, ◌+◌, ◌-◌, ◌%◌, ◌<◌, ◌≤◌, ◌==◌, ◌&&◌, not, Bool, true, false, List, [], ◌∷◌, arith, inl, inr}
use Rattle.std.specs.Prelude.{Some, nat_lt, if◌then◌else◌}
use Rattle.std.proofs.lemmas.Bool.{cases_Bool, cases_eq, eq-eqb, le-ltb, and_from, and_left}
use Rattle.wd1770.specs.declared.command.Command.TheVariants.{Idle, Searching, Transferring}
use Rattle.wd1770.specs.declared.command.Transfer.{Transfer}
use Rattle.wd1770.specs.State.{State}
use Rattle.wd1770.specs.Ends.{is_asking, count_leaves, not_found}
use Rattle.wd1770.specs.Sectors.{is_found, search_step}
use Rattle.wd1770.specs.Registers.{read_leaves}
use Rattle.wd1770.specs.Step.{next_angle, work_leaves, step}
use Rattle.wd1770.specs.History.{Event, microsecond, read, write, latch, history, count_steps}
use Rattle.law_chips.specs.Searches.{AllWait, steps_to, sector_angle, has_match, ComesNot, SearchEnds}
use Rattle.law_chips.specs.Interrupts.{status_is_read}
use Rattle.law_chips.proofs.Forcing.{Rests, rests_until_read}
use Rattle.law_chips.proofs.Reading.{same_disc}
use Rattle.law_chips.proofs.Waiting.{Waited, CountsFrom, one_step, waited_read, at_first, waits_from}

-- a search m steps after its beginning
abbrev Going : State → Transfer → ℕ → State → ℕ → Type 0
Going s0 t left s m = Waited s0 (Searching t (left - m)) s m

pub record Found (s0 : State) (t : Transfer) (s : State) : Type 0 where
  pub drive0 : s.drive0 ≡ s0.drive0
  pub drive1 : s.drive1 ≡ s0.drive1
  pub latch : s.latch ≡ s0.latch
  pub track : s.track ≡ s0.track
  pub command : s.command ≡ Transferring t s0.sector
  pub angle : s.angle ≡ Some (sector_angle s0.sector)
  pub drq : s0.drq ≡ false → s.drq ≡ false
  pub lost : s.lost_data ≡ s0.lost_data
  pub sector : s.sector ≡ s0.sector

record Lost (s : State) : Type 0 where
  pub command : s.command ≡ Idle
  pub none : s.record_not_found ≡ true

-- the step at which the search is over
record IsOver (s : State) : Type 0 where
  pub lost : Lost s
  pub rests : Rests true s

-- One step.
searched : (s : State) (t : Transfer) (left : ℕ) → s.command ≡ Searching t left →
    work_leaves s ≡ search_step t left (next_angle s.angle) (record s { angle = Some (next_angle s.angle) })
searched s t left is = grind arith

-- no sector is found in the step after `m` steps
NoneAt : State → Transfer → ℕ → Type 0
NoneAt s0 t m = (has_match t s0 && ((next_angle s0.angle + m) % 200000 == sector_angle s0.sector)) ≡ false

here : (s0 s : State) (t : Transfer) (left m : ℕ) → Going s0 t left s m →
    is_found t.target (next_angle s.angle) (record s { angle = Some (next_angle s.angle) })
    ≡ (has_match t s0 && ((next_angle s0.angle + m) % 200000 == sector_angle s0.sector))
here s0 s t left m going = grind arith

-- the state after a step, by the sector found or not
step_by : (b : Bool) (s0 s : State) (t : Transfer) (left m : ℕ) → Going s0 t left s m →
    (has_match t s0 && ((next_angle s0.angle + m) % 200000 == sector_angle s0.sector)) ≡ b →
    let s1 : State = record s { angle = Some (next_angle s.angle) } in
    work_leaves s
    ≡ (if b then record s1 { command = Transferring t s1.sector }
    else if nat_lt 1 (left - m) then record s1 { command = Searching t (left - m - 1) } else not_found s1)
step_by b s0 s t left m going is =
    let s1 : State = record s { angle = Some (next_angle s.angle) } in
    searched s t (left - m) going.command
    ∙ ap (λ b. if b then record s1 { command = Transferring t s1.sector }
    else if nat_lt 1 (left - m) then record s1 { command = Searching t (left - m - 1) } else not_found s1) (here s0 s t left m going ∙ is)

goes_on : (s0 : State) (t : Transfer) (left last : ℕ) → last < left → ((i : ℕ) → i < last → NoneAt s0 t i) → CountsFrom s0 (λ m. Searching t (left - m)) last
unfolding NoneAt
goes_on s0 t left last before none = grind arith

finds : (s0 s : State) (t : Transfer) (left m : ℕ) → Going s0 t left s m → has_match t s0 ≡ true →
    (next_angle s0.angle + m) % 200000 ≡ sector_angle s0.sector → Found s0 t (step s)
finds s0 s t left m going has now =
    subst (λ y. Found s0 t (count_leaves (is_asking s) y)) (sym (step_by true s0 s t left m going (and_from _ _ has (eq-eqb _ _ now)))) (record {
      drive0 = going.drive0;
      drive1 = going.drive1;
      latch = going.latch;
      track = going.track;
      command = ap (Transferring t) going.sector;
      angle = ap (λ (a : ℕ). Some a) (going.angle ∙ now);
      drq = going.drq;
      lost = going.lost;
      sector = going.sector;
    })

loses : (s0 s : State) (t : Transfer) (left m : ℕ) → Going s0 t left s m → NoneAt s0 t m → m + 1 ≡ left → IsOver (step s)
unfolding NoneAt
loses s0 s t left m going none end =
    let s1 : State = record s { angle = Some (next_angle s.angle) } in
    let is : work_leaves s ≡ not_found s1 =
    step_by false s0 s t left m going none
    ∙ ap (λ b. if b then record s1 { command = Searching t (left - m - 1) } else not_found s1) (le-ltb 1 (left - m) (omega arith)) in
    subst (λ y. IsOver (count_leaves (is_asking s) y)) (sym is) (record {
      lost = record { command = refl; none = refl };
      rests = record { command = refl; intrq = refl };
    })

-- ---- Reads of registers.

found_read : (s0 : State) (t : Transfer) (reg : ℕ) (s : State) → Found s0 t s → Found s0 t (read_leaves reg s)
found_read s0 t reg s found = grind arith

lost_read : (reg : ℕ) (s : State) → Lost s → Lost (read_leaves reg s)
lost_read reg s lost = grind arith

-- ---- Runs.

-- the steps are over, and the invariant stays
run_over : (P : State → Type 0) → ((reg : ℕ) (s : State) → P s → P (read_leaves reg s)) → (events : List Event) (s : State) → AllWait events →
    count_steps events ≡ 0 →
    P s → P (history events s)
run_over P reads [] s all none holds = holds
run_over P reads (microsecond ∷ es) s all none holds = absurd (omega arith)
run_over P reads (read reg ∷ es) s all none holds = run_over P reads es (read_leaves reg s) all.1 none (reads reg s holds)
run_over P reads (write reg v ∷ es) s all none holds = absurd all.0
run_over P reads (latch v ∷ es) s all none holds = absurd all.0

run_done : (P : State → Type 0) → ((reg : ℕ) (s : State) → P s → P (read_leaves reg s)) → (s0 : State) (t : Transfer) (left last : ℕ) →
    ((s : State) → Going s0 t left s last → P (step s)) → last < left → ((i : ℕ) → i < last → NoneAt s0 t i) →
    (events : List Event) (s : State) (m : ℕ) → AllWait events → m + count_steps events ≡ last + 1 → m ≤ last → Going s0 t left s m → P (history events s)
run_done P reads s0 t left last ends before none [] s m all count most going = absurd (omega arith)
run_done P reads s0 t left last ends before none (microsecond ∷ es) s m all count most going = elim (cases_eq m last) [
  | inl now ↦
      run_over P reads es (step s) all.1 (omega arith) (ends s (subst (λ n. Going s0 t left s n) now going))
  | inr earlier ↦
      let more : m < last = omega arith in
      run_done P reads s0 t left last ends before none es (step s) (m + 1) all.1 (omega arith) (omega arith)
      (one_step (λ m. Searching t (left - m)) last s0 (goes_on s0 t left last before none) s m more going)
]
run_done P reads s0 t left last ends before none (read reg ∷ es) s m all count most going =
    run_done P reads s0 t left last ends before none es (read_leaves reg s) m all.1 count most (waited_read s0 (Searching t (left - m)) reg s m going)
run_done P reads s0 t left last ends before none (write reg v ∷ es) s m all count most going = absurd all.0
run_done P reads s0 t left last ends before none (latch v ∷ es) s m all count most going = absurd all.0

-- at the beginning
begins : (s : State) (t : Transfer) (left : ℕ) → s.command ≡ Searching t left → Going s t left s 0
begins s t left is = grind (arith, at_first)

-- the search continues for these steps
runs_on : (s : State) (t : Transfer) (left last : ℕ) (events : List Event) → s.command ≡ Searching t left → last < left →
    ((i : ℕ) → i < last → NoneAt s t i) → AllWait events → count_steps events ≤ last → (history events s).command ≡ Searching t (left - count_steps events)
runs_on s t left last events is before none all most =
    (waits_from (λ m. Searching t (left - m)) last s (goes_on s t left last before none) events all most (begins s t left is).command).command

-- a sector that is on a disc begins within a turn
not_before : (s : State) (t : Transfer) → has_match t s ≡ true → (i : ℕ) → i < (sector_angle s.sector + 200000 - next_angle s.angle) % 200000 → NoneAt s t i
unfolding NoneAt
not_before s t has i early = grind arith

then_now : (s : State) (t : Transfer) → has_match t s ≡ true →
    (next_angle s.angle + (sector_angle s.sector + 200000 - next_angle s.angle) % 200000) % 200000 ≡ sector_angle s.sector
then_now s t has = grind arith

never : (s : State) (t : Transfer) → has_match t s ≡ false → (i : ℕ) → NoneAt s t i
unfolding NoneAt
never s t none i = and_left (has_match t s) _ none

-- none in the time that is left
none_comes : (s : State) (t : Transfer) (left : ℕ) → ComesNot t left s → (i : ℕ) → i < left → NoneAt s t i
none_comes s t left (inl none) i early = never s t none i
none_comes s t left (inr late) i early = elim (cases_Bool (has_match t s)) [
  | inl has ↦ not_before s t has i (omega arith)
  | inr none ↦ never s t none i
]

turn : (s : State) → (sector_angle s.sector + 200000 - next_angle s.angle) % 200000 < 200000
turn s = omega arith

-- a turn is enough for each sector
pub within_turn : (s : State) (left : ℕ) → 200000 ≤ left → steps_to (sector_angle s.sector) s ≤ left
within_turn s left enough = omega (arith, turn s)

-- a search that finds its sector
pub search_found : (s : State) (t : Transfer) (left : ℕ) (events : List Event) →
    s.command ≡ Searching t left → steps_to (sector_angle s.sector) s ≤ left → has_match t s ≡ true → AllWait events →
    count_steps events ≡ steps_to (sector_angle s.sector) s → Found s t (history events s)
search_found s t left events is enough has all count =
    let last = (sector_angle s.sector + 200000 - next_angle s.angle) % 200000 in
    run_done (Found s t) (found_read s t) s t left last (λ x going. finds s x t left last going has (then_now s t has)) (omega arith)
    (not_before s t has)
    events s 0 all (omega arith) (omega arith) (begins s t left is)

pub search_ends : SearchEnds
search_ends = record {
  goes_on = λ s t left events is enough has all early.
      let last = (sector_angle s.sector + 200000 - next_angle s.angle) % 200000 in
      runs_on s t left last events is (omega arith) (not_before s t has) all (omega arith);
  found = λ s t left events is enough has off all count.
      let found = search_found s t left events is enough has all count in (
        record { command = found.command; angle = found.angle; drq = found.drq off },
        same_disc t.target.drive (history events s) s found.drive0 found.drive1,
        found.lost,
        found.sector,
      );
  waits = λ s t left events is none all early.
      runs_on s t left (count_steps events) events is early (λ i h. none_comes s t left none i (omega arith)) all (omega arith);
  not_found = λ s t left events is some none all count.
      let lost : Lost (history events s) =
      run_done Lost lost_read s t left (left - 1)
      (λ x going. (loses s x t left (left - 1) going (none_comes s t left none (left - 1) (omega arith)) (omega arith)).lost)
      (omega arith)
      (λ i h. none_comes s t left none i (omega arith)) events s 0 all (omega arith) (omega arith) (begins s t left is) in
      (lost.command, lost.none);
  asks = λ s t left waits others is none all count free.
      let going : Going s t left (history waits s) (count_steps waits) =
      waits_from (λ m. Searching t (left - m)) (count_steps waits) s
      (goes_on s t left (count_steps waits) (omega arith) (λ i h. none_comes s t left none i (omega arith)))
      waits all (omega arith) (begins s t left is).command in
      let over : IsOver (step (history waits s)) =
      loses s (history waits s) t left (count_steps waits) going (none_comes s t left none (count_steps waits) (omega arith)) count in
      (rests_until_read true others (step (history waits s)) free over.rests).intrq;
}
