-- The steps of a watched party are those of the party, with notes of the starts.
use Rattle.std.proofs.Common.{ℕ, zero, suc, ◌≡◌, ◌≤◌, ◌<◌, ◌∙◌, refl, arith, [], true, false, Some, None}
use Rattle.beeb_bits.specs.declared.Tick.{Tick}
use Rattle.beeb_bits.specs.declared.Side.TheVariants.{Host}
use Rattle.tube_chip.specs.declared.Answer.TheVariants.{Seen}
use Rattle.tube_chip.specs.declared.Lines.{Lines}
use Rattle.tube_party.specs.declared.party.Ask.{Ask}
use Rattle.tube_party.specs.declared.party.Ask.TheVariants.{Look}
use Rattle.tube_party.specs.Transitions.{Transitions, IsLawful, Looks, Advances, LookRunToAsk, IsAsk, IsNotSafe, shown_lines}
use Rattle.tube_party.specs.Steps.{due_rises, looks_on}
use Rattle.tube_party.proofs.Runs.{Steps, steps_of, runs_of}
use Rattle.tube_party.proofs.Runs.Steps.{Over, Silent}
use Rattle.tube_party.proofs.Seeing.{stops_there, sees_one_more}
use Rattle.tube_machine.specs.declared.skip_while.SkipWhile.{SkipWhile}
use Rattle.tube_machine.specs.SkipWhile.{IsSkipped, Passes}
use Rattle.op_table.specs.declared.names.Part.{Part}
use Rattle.follow.specs.declared.choice.Choice.{Choice}
use Rattle.follow.specs.Sight.{Sight, IsSeen, IsSame}
use Rattle.follow.specs.Start.{StartState, start_of}
use Rattle.follow.specs.CodeNotes.{Kept, LeavesKept, keep}
use Rattle.follow.specs.CodeWatched.{Order, order, Watched, watched_of, watched_transitions, watched_lawful, noted}

-- steps to last that ask nothing
abbrev Silently : {S : Type 0} → Transitions S → ℕ → S → S → Type 0
Silently m n last s = Steps m Host n last s []

-- the tick rises
rise : {S : Type 0} {m : Transitions S} {n : ℕ} {last s : S} → IsLawful m → Silently m n last s → m.due s ≤ m.due last
rise {m = m} {last = last} lawful Over = let d = m.due last in omega arith
rise lawful (Silent {s = s} low none on) = omega (arith, lawful.rises s None, rise lawful on)

-- and then the party asks this
asking : {S : Type 0} {m : Transitions S} {n : ℕ} {last s new : S} {ask : Ask} → Silently m n last s → IsAsk m n last ask new → Advances m n s ask new
asking {m = m} {n = n} {last = last} silent asked = let some = runs_of m Host n silent in record { steps = some.0; last = last; runs = some.1; asked = asked }

-- Looks in two parts. After them the party advanced, and stopped at a step that is no safe look, or
-- at a safe one, which saw the lines.
module _ {S : Type 0} {m : Transitions S} {n : ℕ} {lines : Lines} {safe_until : ℕ} {old cur : S} (mid : S) (first : (j : ℕ) × Looks m n (shown_lines lines safe_until) j old mid)
    (more : (k : ℕ) × Looks m n (shown_lines lines safe_until) k mid cur) where
  pub stops : {new : S} {ask : Ask} → Advances m n cur ask new → IsNotSafe safe_until ask → LookRunToAsk m n (shown_lines lines safe_until) old ask new
  stops told not_safe = stops_there m n lines safe_until old cur _ _ (looks_on m n lines safe_until first.0 more.0 old mid cur first.1 more.1) told not_safe

  pub sees_on : {at new : S} {ask : Ask} {t : Tick} → Advances m n cur ask at → ask ≡ Look t → t.0 < safe_until → new ≡ m.next at (Some (Seen lines))
      → (k : ℕ) × Looks m n (shown_lines lines safe_until) k old new
  sees_on told is early answered = sees_one_more m n lines safe_until old cur _ _ _ _ (looks_on m n lines safe_until first.0 more.0 old mid cur first.1 more.1) told is early answered

-- ---- A party that is watched

module _ {T : Type 0} {w : Transitions T} {sights : T → Sight} (seen : IsSeen w sights) where
  -- no start follows a step that asks nothing
  no_start : (t : T) → w.asks t ≡ None → (sights (w.next t None)).starting ≡ false
  no_start t h = grind arith

  -- a question leaves the tick of the next step
  due_asked : (n : ℕ) (last : T) (ask : Ask) (new : T) → IsAsk w n last ask new → w.due new ≡ w.due last
  due_asked n last ask new h = grind arith

  module _ (set : Order) (kept : Kept) where
    ask_with : (n : ℕ) (last : T) (ask : Ask) (new : T) → IsAsk w n last ask new → IsAsk (watched_transitions w sights) n (watched_of last set kept) ask (watched_of new set kept)
    ask_with n last ask new h = grind arith

    -- silent steps from a state that changes no note, and each of them changes none
    steps_on : {n : ℕ} {last t : T} → noted w sights t set.choice kept ≡ kept → Silently w n last t
        → Silently (watched_transitions w sights) n (watched_of last set kept) (watched_of t set kept) × (noted w sights last set.choice kept ≡ kept)
    steps_on leaves Over = (Over, leaves)
    steps_on leaves (Silent {s = s} low none on) = let more = steps_on (rw (no_start s none)) on in (Silent low none (rw leaves more.0), more.1)

    -- a start that is skipped changes no note
    module _ (skip : SkipWhile) (leaves : LeavesKept set.choice kept.before skip) (n : ℕ) (lines : Lines) (safe_until : ℕ) where
      abbrev over : T → Type 0
      over s = IsSkipped skip (w.due s) (sights s).regs.pc (sights s).peek

      leaves_noted : (t : T) → over t → noted w sights t set.choice kept ≡ kept
      leaves_noted t is = grind arith

      passes_on : (k : ℕ) {old : Watched T} (t last : T) → (j : ℕ) × Looks (watched_transitions w sights) n (shown_lines lines safe_until) j old (watched_of t set kept)
          → Passes w over n (shown_lines lines safe_until) k t last → (j : ℕ) × Looks (watched_transitions w sights) n (shown_lines lines safe_until) j old (watched_of last set kept)
      passes_on zero t last so_far h = rw (← h) so_far
      passes_on (suc k) {old} t last so_far h =
          let to = h.1.1.0 in
          let silent = steps_on (leaves_noted t h.0) (steps_of w Host n to.goes.steps to.goes.runs) in
          passes_on k h.1.0 last
          (sees_one_more (watched_transitions w sights) n lines safe_until old (watched_of t set kept) (watched_of to.last set kept) (watched_of h.1.0 set kept) (Look to.tick) to.tick so_far
          (asking silent.0 (ask_with n to.goes.last (Look to.tick) to.last to.goes.asked)) refl to.safe_until (rw (to.next, to.goes.asked.3, silent.1)))
          h.1.1.1

      -- such starts one after another
      pub passed : (k : ℕ) (t last : T) → Passes w over n (shown_lines lines safe_until) k t last
          → (j : ℕ) × Looks (watched_transitions w sights) n (shown_lines lines safe_until) j (watched_of t set kept) (watched_of last set kept)
      passed k t last h = passes_on k t last (0, refl) h

      pub passed_rise : (k : ℕ) (t last : T) → Passes w over n (shown_lines lines safe_until) k t last → w.due t ≤ w.due last
      passed_rise k t last h =
          let looks = passed k t last h in
          due_rises (watched_transitions w sights) n lines safe_until looks.0 (watched_of t set kept) (watched_of last set kept) (watched_lawful w sights seen) looks.1

-- ---- Another view of a party

module _ {X S T : Type 0} {state : X → S} {m : Transitions S} {inside : X → T} {w : Transitions T} (same : IsSame state m inside w) where
  inside_due : (x : X) → w.due (inside x) ≡ m.due (state x)
  inside_due x = rw (← same.is x) (same.due (state x))

  steps_to : {n : ℕ} {last s : S} → Silently m n last s → Silently w n (same.to last) (same.to s)
  steps_to Over = Over
  steps_to (Silent {s = s} low none on) = Silent (rw same.due low) (same.asks s ∙ none) (rw same.next (steps_to on))

  ask_to : (n : ℕ) (last : S) (ask : Ask) (y : X) → IsAsk m n last ask (state y) → IsAsk w n (same.to last) ask (inside y)
  ask_to n last ask y h = grind arith

  module _ {sights : T → Sight} (seen : IsSeen w sights) {n : ℕ} (x y : X) {ask : Ask} (goes : Advances m n (state x) ask (state y)) where
    way : Silently w n (same.to goes.last) (inside x)
    way = rw (← same.is x) (steps_to (steps_of m Host n goes.steps goes.runs))

    asked : IsAsk w n (same.to goes.last) ask (inside y)
    asked = ask_to n goes.last ask y goes.asked

    stopped : w.due (inside y) ≡ w.due (same.to goes.last)
    stopped = due_asked seen n (same.to goes.last) ask (inside y) asked

    -- the tick never falls
    pub due_advanced : w.due (inside x) ≤ w.due (inside y)
    due_advanced = omega (arith, rise seen.lawful way, stopped)

    -- a step that was done is below n
    low_by : {last t : T} → Silently w n last t → w.due t < w.due last → w.due t < n
    low_by Over up = absurd (omega arith)
    low_by (Silent low none on) up = low

    up_by : m.due (state x) < m.due (state y) → w.due (inside x) < w.due (same.to goes.last)
    up_by up = omega (arith, stopped, inside_due x, inside_due y, up)

    pub step_below : m.due (state x) < m.due (state y) → w.due (inside x) < n
    step_below up = low_by way (up_by up)

    module _ (set : Order) (kept : Kept) where
      -- from a state that is no start
      pub advances_plain : (sights (inside x)).starting ≡ false → Advances (watched_transitions w sights) n (watched_of (inside x) set kept) ask (watched_of (inside y) set kept)
      advances_plain is = asking (steps_on seen set kept (rw is) way).0 (ask_with seen set kept n _ ask (inside y) asked)

      -- if no step was done
      still_by : {last t : T} → Silently w n last t → w.due last ≤ w.due t → t ≡ last
      still_by Over low = refl
      still_by (Silent {s = s} below none on) low = absurd (omega (arith, seen.lawful.rises s None, rise seen.lawful on))

      pub advances_still : m.due (state y) ≤ m.due (state x) → Advances (watched_transitions w sights) n (watched_of (inside x) set kept) ask (watched_of (inside y) set kept)
      advances_still low =
          let here = still_by way (omega (arith, stopped, inside_due x, inside_due y, low)) in
          asking (rw here Over) (ask_with seen set kept n _ ask (inside y) asked)

      -- if one was done, and the start was noted
      first_by : {last t : T} → Silently w n last t → w.due t < w.due last
          → Silently (watched_transitions w sights) n (watched_of last set (noted w sights t set.choice kept)) (watched_of t set kept)
      first_by Over up = absurd (omega arith)
      first_by (Silent {s = s} low none on) up = Silent low none (steps_on seen set _ (rw (no_start seen s none)) on).0

      pub advances_noted : {part : Part} {choice : Choice} {start : StartState} {after : Kept} → m.due (state x) < m.due (state y) → (sights (inside x)).starting ≡ true
          → start ≡ start_of w sights set.choice.watch (inside x) → after ≡ keep set.choice kept start → part ≡ set.part → choice ≡ set.choice
          → Advances (watched_transitions w sights) n (watched_of (inside x) set kept) ask (watched_of (inside y) (order part choice) after)
      advances_noted up is told then one two =
          let all = asking (first_by way (up_by up)) (ask_with seen set (noted w sights (inside x) set.choice kept) n _ ask (inside y) asked) in
          rw (one, two, then, told) (rw is at all)
