-- Ticks rise from start to start in a listing.
use Rattle.std.proofs.Common.{◌≡◌, ◌∙◌, sym, refl, ap, arith, ℕ, zero, suc, ◌≤◌, ◌<◌, ◌+◌}
use Rattle.std.proofs.Common.{Bool, true, false, nat_le, nat_lt, List, [], ◌∷◌, ◌++◌, length, take, flat_map}
use Rattle.std.proofs.Common.{All, Option, Some, None, if◌then◌else◌, length-append}
use Rattle.std.proofs.lemmas.Bool.Decides.{nat_tests}
use Rattle.std.proofs.lemmas.List.{take_all}
use Rattle.std.proofs.lemmas.List.Concat.{flat_map-append}
use Rattle.std.proofs.lemmas.List.Elements.{All-nil, All-cons, All-head, All-tail, All-weaker}
use Rattle.beeb_bits.specs.declared.Side.{Side}
use Rattle.op_table.specs.declared.names.Part.{Part}
use Rattle.tube_chip.specs.declared.Answer.TheVariants.{Byte, Seen}
use Rattle.tube_chip.specs.State.{lines_of, power_on}
use Rattle.tube_chip.specs.Act.{Query, access, look}
use Rattle.tube_trace.specs.declared.Entry.{Entry}
use Rattle.tube_party.specs.Transitions.{Transitions, IsLawful}
use Rattle.tube_party.specs.Replay.{Numbered, own_from, is_that, chip_before}
use Rattle.follow.specs.declared.Choice.{Choice}
use Rattle.follow.specs.Sight.{Sight}
use Rattle.follow.specs.Start.{StartState, start_of}
use Rattle.follow.specs.Listing.{is_chosen, chosen_from, chosen_of, run_from, step_run, run_of, starts_of, lines_of_starts, start_line}
use Rattle.law_sessions.specs.OutputOptions.{with_from, starts_from, FromIsEnd}
use Rattle.law_sessions.proofs.FromLemmas.{chosen_later}

abbrev IsLater : ℕ → StartState → Type 0
IsLater t s = t ≤ s.tick

-- no start is before one that comes earlier in the list
abbrev Rising : List StartState → Type 0
Rising [] = Unit {0}
Rising (x ∷ xs) = All (IsLater x.tick) xs × Rising xs

-- ---- The starts of a run

module _ {S : Type 0} (m : Transitions S) (lawful : IsLawful m) (sights : S → Sight) (watch : Option ℕ) where
  abbrev Rise : ℕ → List S → Type 0
  Rise t states = All (IsLater t) (starts_of m sights watch states) × Rising (starts_of m sights watch states)

  none_rise : (t : ℕ) → Rise t []
  none_rise t = (All-nil (IsLater t), tt)

  if_rise : (t : ℕ) (b : Bool) (states : List S) → Rise t states → Rise t (if b then states else [])
  if_rise t true states rise = rise
  if_rise t false states rise = none_rise t

  first_rise : (s : S) (t : ℕ) (states : List S) (is_start : Bool) → (sights s).starting ≡ is_start → m.due s < t → Rise t states
      → Rise (m.due s) (s ∷ states)
  first_rise s t states true is low rise =
      let d : ℕ = m.due s in
      let all : All (IsLater (m.due s)) (starts_of m sights watch states) =
      All-weaker (IsLater t) (IsLater (m.due s)) (λ x h. omega (arith, h, low)) (starts_of m sights watch states) rise.0 in
      rw is (All-cons (IsLater (m.due s)) (start_of m sights watch s) (starts_of m sights watch states) (omega arith) all, (all, rise.1))
  first_rise s t states false is low rise =
      rw is (All-weaker (IsLater t) (IsLater (m.due s)) (λ x h. omega (arith, h, low)) (starts_of m sights watch states) rise.0, rise.1)

  module _ (side : Side) (trace : List Entry) (n : ℕ) where
    step_rise : (q : Option Query) (behind : S → List Numbered → List S) → ((s : S) (own : List Numbered) → Rise (m.due s) (behind s own))
        → (s : S) (own : List Numbered) → Rise (m.due s) (step_run m side trace s own q behind)
    step_rise None behind rise s own =
        first_rise s (m.due (m.next s None)) (behind (m.next s None) own) (sights s).starting refl (lawful.rises s None) (rise (m.next s None) own)
    step_rise (Some look) behind rise s own =
        let a = Some (Seen (lines_of (chip_before side (m.due s) power_on trace))) in
        first_rise s (m.due (m.next s a)) (behind (m.next s a) own) (sights s).starting refl (lawful.rises s a) (rise (m.next s a) own)
    step_rise (Some (access op)) behind rise s [] = none_rise (m.due s)
    step_rise (Some (access op)) behind rise s (x ∷ own) =
        let a = Some (Byte x.entry.answer) in
        if_rise (m.due s) (is_that x.entry (m.due s) op) (s ∷ behind (m.next s a) own)
        (first_rise s (m.due (m.next s a)) (behind (m.next s a) own) (sights s).starting refl (lawful.rises s a) (rise (m.next s a) own))

    run_rise : (k : ℕ) (s : S) (own : List Numbered) → Rise (m.due s) (run_from m side trace n k s own)
    run_rise zero s own = none_rise (m.due s)
    run_rise (suc k) s own =
        if_rise (m.due s) (nat_lt (m.due s) n) (step_run m side trace s own (m.asks s) (run_from m side trace n k))
        (step_rise (m.asks s) (run_from m side trace n k) (run_rise k) s own)

    run_rising : (s : S) → Rising (starts_of m sights watch (run_of m side trace n s))
    unfolding run_of
    run_rising s = (run_rise n s (own_from side n 1 trace)).1

-- ---- The chosen ones

if_all : (P : StartState → Type 0) (b : Bool) (x : StartState) (xs : List StartState) → P x → All P xs → All P (if b then x ∷ xs else xs)
if_all P true x xs p all = All-cons P x xs p all
if_all P false x xs p all = all

if_rising : (b : Bool) (x : StartState) (xs : List StartState) → All (IsLater x.tick) xs → Rising xs → Rising (if b then x ∷ xs else xs)
if_rising true x xs all rising = (all, rising)
if_rising false x xs all rising = rising

module _ (choice : Choice) where
  chosen_all : (P : StartState → Type 0) (before : Option (Option ℕ)) (xs : List StartState) → All P xs → All P (chosen_from choice before xs)
  chosen_all P before [] all = all
  chosen_all P before (x ∷ xs) all =
      if_all P (is_chosen choice before x.tick x.regs.pc x.watched) x (chosen_from choice (Some x.watched) xs) (All-head P x xs all)
      (chosen_all P (Some x.watched) xs (All-tail P x xs all))

  chosen_rising : (before : Option (Option ℕ)) (xs : List StartState) → Rising xs → Rising (chosen_from choice before xs)
  chosen_rising before [] rising = rising
  chosen_rising before (x ∷ xs) rising =
      if_rising (is_chosen choice before x.tick x.regs.pc x.watched) x (chosen_from choice (Some x.watched) xs)
      (chosen_all (IsLater x.tick) (Some x.watched) xs rising.0) (chosen_rising (Some x.watched) xs rising.1)

-- ---- Those from a tick on are the end

module _ (from : ℕ) where
  all_kept : (xs : List StartState) → All (IsLater from) xs → starts_from from xs ≡ xs
  all_kept [] all = refl
  all_kept (x ∷ xs) all =
      let low : from ≤ x.tick = All-head (IsLater from) x xs all in
      let late : nat_le from x.tick ≡ true = grind (arith, nat_tests) in
      rw late (ap (λ l. x ∷ l) (all_kept xs (All-tail (IsLater from) x xs all)))

  record IsEnd (xs : List StartState) : Type 0 where
    front : List StartState
    is : xs ≡ front ++ starts_from from xs

  end_by : (x : StartState) (xs : List StartState) (late : Bool) → nat_le from x.tick ≡ late → All (IsLater x.tick) xs → IsEnd xs → IsEnd (x ∷ xs)
  end_by x xs true late all others =
      let low : from ≤ x.tick = grind (arith, nat_tests) in
      let more : All (IsLater from) xs = All-weaker (IsLater x.tick) (IsLater from) (λ s h. omega (arith, h, low)) xs all in
      record { front = []; is = sym (all_kept (x ∷ xs) (All-cons (IsLater from) x xs low more)) }
  end_by x xs false late all others = record { front = x ∷ others.front; is = rw late (ap (λ l. x ∷ l) others.is) }

  end : (xs : List StartState) → Rising xs → IsEnd xs
  end [] rising = record { front = []; is = refl }
  end (x ∷ xs) rising = end_by x xs (nat_le from x.tick) refl rising.0 (end xs rising.1)

  lines_end : (part : Part) (xs : List StartState) → Rising xs → length xs ≤ 1048576
      → (front : List ℕ) × (lines_of_starts part xs ≡ front ++ lines_of_starts part (starts_from from xs))
  unfolding lines_of_starts
  lines_end part xs rising few =
      let parts : IsEnd xs = end xs rising in
      let later : List StartState = starts_from from xs in
      let sum : length xs ≡ length parts.front + length later = ap length parts.is ∙ length-append parts.front later in
      let less : length later ≤ 1048576 = omega (arith, sum, few) in (
        flat_map (λ s. start_line part s) parts.front,
        ap (flat_map (λ s. start_line part s)) (take_all 1048576 xs few ∙ parts.is)
            ∙ flat_map-append (λ s. start_line part s) parts.front later
            ∙ ap (λ l. flat_map (λ s. start_line part s) parts.front ++ flat_map (λ s. start_line part s) l) (sym (take_all 1048576 later less)),
      )

pub from_is_end : {S : Type 0} (m : Transitions S) (sights : S → Sight) (part : Part) (side : Side) → IsLawful m → FromIsEnd m sights part side
from_is_end m sights part side lawful trace n choice s from few =
    let starts : List StartState = starts_of m sights choice.watch (run_of m side trace n s) in
    let whole : List StartState = chosen_of (with_from 0 choice) starts in
    let r = lines_end from part whole (chosen_rising (with_from 0 choice) None starts (run_rising m lawful sights choice.watch side trace n s)) few in
    (r.0, r.1 ∙ ap (λ l. r.0 ++ lines_of_starts part l) (sym (chosen_later from choice None starts)))
