-- The notes of a replay, as contracts see them.
use Rattle.std.specs.Prelude.{ℕ, ◌≡◌, List, [], ◌∷◌, ◌++◌, length, Bool, false, Option, Some, None, if◌then◌else◌}
use Rattle.op_table.specs.declared.names.Part.{Part}
use Rattle.tube_machine.specs.declared.skip_while.SkipWhile.{SkipWhile}
use Rattle.tube_machine.specs.SkipWhile.{IsSkipped}
use Rattle.follow.specs.declared.choice.Choice.{Choice}
use Rattle.follow.specs.Start.{StartState, watched_byte}
use Rattle.follow.specs.Counts.{is_counted}
use Rattle.follow.specs.Listing.{is_chosen, lines_of_starts, ListingState, listing_with}
use Rattle.follow.specs.CodeTally.{text_if}

-- the chosen starts, the byte watched at the last start, if there was a start, and the counted
-- starts
pub record Kept : Type 0 where
  pub chosen : List StartState
  pub before : Option (Option ℕ)
  pub counted : List StartState

abbrev pub kept_of : List StartState → Option (Option ℕ) → List StartState → Kept
kept_of chosen before counted = record { chosen = chosen; before = before; counted = counted }

-- the notes before the first start
abbrev pub none_kept : Kept
none_kept = kept_of [] None []

-- `starts`, with `x` appended if `is` is true
abbrev pub with_if : Bool → List StartState → StartState → List StartState
with_if is starts x = if is then starts ++ x ∷ [] else starts

-- the notes after start `x`, and after each of `starts`
abbrev pub keep : Choice → Kept → StartState → Kept
keep choice k x =
    kept_of (with_if (is_chosen choice k.before x.tick x.regs.pc x.watched) k.chosen x) (Some x.watched) (with_if (is_counted choice x.tick) k.counted x)

abbrev pub keep_all : Choice → Kept → List StartState → Kept
keep_all choice k [] = k
keep_all choice k (x ∷ starts) = keep_all choice (keep choice k x) starts

-- The text has the lines of the chosen starts, if memory did not run out, and `chosen` is their
-- number.
pub record IsKept (part : Part) (starts : List StartState) (text : List ℕ) (is_short : Bool) (chosen : ℕ) : Type 0 where
  pub lines : is_short ≡ false → text ≡ lines_of_starts part starts
  pub count : chosen ≡ length starts

-- A skipped start is neither chosen nor counted, and has the watched byte of the start before it.
abbrev pub LeavesKept : Choice → Option (Option ℕ) → SkipWhile → Type 0
LeavesKept choice before skip =
    (tick pc : ℕ) (peek : ℕ → Option ℕ) → IsSkipped skip tick pc peek →
    (is_chosen choice before tick pc (watched_byte choice.watch peek) ≡ false) × (is_counted choice tick ≡ false) × (before ≡ Some (watched_byte choice.watch peek))

-- the listing of the chosen starts, with the counts of the counted starts
abbrev pub listing_noted : Part → Choice → ℕ → List StartState → List StartState → ListingState
listing_noted part choice n chosen counted = listing_with part chosen (text_if choice.counts n counted)
