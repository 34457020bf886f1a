-- A replay of a watched party is one of the party, with the starts of its run.
use Rattle.std.proofs.Common.{ℕ, zero, suc, ◌≡◌, ◌∙◌, ◌≤◌, nat_lt, refl, sym, ap, List, [], ◌∷◌}
use Rattle.std.proofs.Common.{◌++◌, Bool, true, false, Option, if◌then◌else◌, append_assoc, arith}
use Rattle.std.proofs.lemmas.List.{append-nil}
use Rattle.beeb_bits.specs.declared.Side.{Side}
use Rattle.tube_chip.specs.Act.{Query}
use Rattle.tube_trace.specs.declared.Entry.{Entry}
use Rattle.tube_party.specs.declared.replaying.Doing.{Doing}
use Rattle.tube_party.specs.Transitions.{Transitions}
use Rattle.tube_party.specs.Replay.{Numbered, Ended, own_from, one_step, replay_from, replay_of}
use Rattle.op_table.specs.declared.names.Part.{Part}
use Rattle.follow.specs.declared.choice.Choice.{Choice}
use Rattle.follow.specs.Sight.{Sight, IsSame}
use Rattle.follow.specs.Start.{StartState}
use Rattle.follow.specs.Counts.{is_counted, counted_of}
use Rattle.follow.specs.Listing.{step_run, run_from, run_of, starts_of, is_chosen, chosen_from, chosen_of, listing_with, replay_listing}
use Rattle.follow.specs.CodeNotes.{Kept, none_kept, keep, keep_all, listing_noted}
use Rattle.follow.specs.CodeWatched.{Order, order, Watched, watched_of, watched_transitions, noted}
use Rattle.follow.proofs.Inside.{place_inside}
use Rattle.follow.proofs.Tallying.{text_if_same}
use Rattle.follow.proofs.Bounds.{counted_few, counted_low}

-- the notes of some starts, and of the chosen ones
some_more : (is : Bool) (x : StartState) (xs ys zs : List StartState) → zs ≡ (if is then xs ++ x ∷ [] else xs) ++ ys → zs ≡ xs ++ (if is then x ∷ ys else ys)
some_more true x xs ys zs e = e ∙ append_assoc xs (x ∷ []) ys
some_more false x xs ys zs e = e

pub chosen_kept : (choice : Choice) (kept : Kept) (starts : List StartState) → (keep_all choice kept starts).chosen ≡ kept.chosen ++ chosen_from choice kept.before starts
chosen_kept choice kept [] = sym (append-nil kept.chosen)
chosen_kept choice kept (x ∷ starts) = some_more (is_chosen choice kept.before x.tick x.regs.pc x.watched) x kept.chosen _ _ (chosen_kept choice (keep choice kept x) starts)

pub counted_kept : (choice : Choice) (kept : Kept) (starts : List StartState) → (keep_all choice kept starts).counted ≡ kept.counted ++ counted_of choice starts
counted_kept choice kept [] = sym (append-nil kept.counted)
counted_kept choice kept (x ∷ starts) = some_more (is_counted choice x.tick) x kept.counted _ _ (counted_kept choice (keep choice kept x) starts)

module _ {S : Type 0} (m : Transitions S) (sights : S → Sight) (set : Order) where
  abbrev v : Transitions (Watched S)
  v = watched_transitions m sights

  -- the notes after these states
  abbrev pub kept_on : Kept → List S → Kept
  kept_on kept states = keep_all set.choice kept (starts_of m sights set.choice.watch states)

  abbrev pub ended_with : Ended S → Kept → Ended (Watched S)
  ended_with e kept = record { machine = watched_of e.machine set kept; place = e.place }

  -- a state of the run, and those after it
  pub noted_on : (s : S) (kept : Kept) (states : List S) → kept_on (noted m sights s set.choice kept) states ≡ kept_on kept (s ∷ states)
  noted_on s kept states = grind arith

  either : (b : Bool) (e f : Ended S) (kept : Kept) (xs ys : List S) {p q : Ended (Watched S)} → p ≡ ended_with e (kept_on kept xs) → q ≡ ended_with f (kept_on kept ys)
      → (if b then p else q) ≡ ended_with (if b then e else f) (kept_on kept (if b then xs else ys))
  either true e f kept xs ys one two = one
  either false e f kept xs ys one two = two

  module _ (side : Side) (trace : List Entry) (n : ℕ) where
    -- the induction hypothesis for `k` steps
    abbrev Holds : ℕ → Type 0
    Holds k = (s : S) (kept : Kept) (own : List Numbered) →
        replay_from v side trace n k (watched_of s set kept) own ≡ ended_with (replay_from m side trace n k s own) (kept_on kept (run_from m side trace n k s own))

    step_by : (k : ℕ) → Holds k → (s : S) (kept : Kept) (own : List Numbered) (o : Option Query) →
        one_step v side trace (watched_of s set kept) own o (replay_from v side trace n k)
        ≡ ended_with (one_step m side trace s own o (replay_from m side trace n k)) (kept_on kept (step_run m side trace s own o (run_from m side trace n k)))
    step_by k on s kept own o = grind arith

    watched_from : (k : ℕ) → Holds k
    watched_from zero s kept own = refl
    watched_from (suc k) s kept own = either (nat_lt (m.due s) n) _ _ kept _ _ (step_by k (watched_from k) s kept own (m.asks s)) refl

    pub replay_watched : (s : S) → replay_of v side trace n (watched_of s set none_kept) ≡ ended_with (replay_of m side trace n s) (kept_on none_kept (run_of m side trace n s))
    unfolding replay_of run_of
    replay_watched s = watched_from n s none_kept (own_from side n 1 trace)

-- The replay begins before any start, with what is to be listed.
module _ {X S T : Type 0} {state : X → S} {m : Transitions S} {inside : X → T} {w : Transitions T} (same : IsSame state m inside w) (sights : T → Sight) (side : Side) (trace : List Entry) (n : ℕ)
    (x : X) where
  abbrev replayed : Part → Choice → Kept → Ended (Watched T)
  replayed part choice kept = replay_of (watched_transitions w sights) side trace n (watched_of (inside x) (order part choice) kept)

  pub place_told : {part p : Part} {choice c : Choice} {kept : Kept} {place : Option (ℕ × Option Doing)} → p ≡ part → c ≡ choice → kept ≡ none_kept
      → place ≡ (replayed p c kept).place
      → (replay_of m side trace n (state x)).place ≡ place
  place_told one two none is = rw (is, one, two, none, replay_watched) (sym (place_inside same side trace n x))

  pub listing_told : {part p : Part} {choice c : Choice} {kept : Kept} {new : Watched T} → n ≤ 1073741824 → p ≡ part → c ≡ choice → kept ≡ none_kept
      → new ≡ (replayed p c kept).machine
      → listing_noted new.order.part new.order.choice n new.kept.chosen new.kept.counted ≡ replay_listing w sights part side trace n choice (inside x)
  listing_told {part = part} {choice = choice} most one two none is =
      let starts : List StartState = starts_of w sights choice.watch (run_of w side trace n (inside x)) in
      rw (is, one, two, none, replay_watched, chosen_kept, counted_kept)
      (ap (listing_with part (chosen_of choice starts))
      (text_if_same choice.counts n (counted_of choice starts) most (counted_few w side trace n sights choice.watch choice (inside x) most)
      (counted_low w side trace n sights choice.watch choice (inside x) most)))
