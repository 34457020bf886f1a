-- One more start after others.
use Rattle.std.proofs.Common.{ℕ, ◌≡◌, ◌≤◌, ◌<◌, ◌+◌, ◌∙◌, arith, List, [], ◌∷◌, ◌++◌, length}
use Rattle.std.proofs.Common.{take, true, false, nat_lt, if◌then◌else◌, length-append, take_all, ◌⊎◌, inl, inr}
use Rattle.std.proofs.Common.{Option, Some, None, ◌&&◌, refl, sym, ap}
use Rattle.std.specs.Prelude.{Bool, IfSome, is_none, flat_map}
use Rattle.std.proofs.lemmas.Bool.Decides.{nat_tests}
use Rattle.std.proofs.lemmas.Grind.{flat_map-append}
use Rattle.std.proofs.lemmas.List.{append-nil, take-append-le}
use Rattle.std.proofs.lemmas.Bool.{cases_lt}
use Rattle.op_table.specs.declared.names.Part.{Part}
use Rattle.follow.specs.Start.{StartState}
use Rattle.follow.specs.Listing.{is_chosen, start_line, lines_of_starts}
use Rattle.follow.specs.Counts.{is_counted}
use Rattle.follow.specs.CodeNotes.{IsKept, kept_of, with_if, keep}
use Rattle.follow.specs.declared.choice.Choice.{Choice}
use Rattle.follow.specs.declared.tally.Tally.{Tally}
use Rattle.follow.specs.CodeTally.{Tallied, IsTallied, tally_seen, none_tallied, tally, tally_all}
use Rattle.follow.proofs.Tallying.{tally_push}

-- the lines of some, taken up to a number, with one more
lines_by : (part : Part) (n : ℕ) (xs : List StartState) (x : StartState) → (length xs < n) ⊎ (n ≤ length xs) →
    flat_map (λ s. start_line part s) (take n (xs ++ x ∷ [])) ≡ flat_map (λ s. start_line part s) (take n xs) ++ (if nat_lt (length xs) n then start_line part x else [])
lines_by part n xs x (inl low) =
    let fits : length (xs ++ x ∷ []) ≤ n = omega (arith, length-append xs (x ∷ [])) in
    let here : nat_lt (length xs) n ≡ true = grind (arith, nat_tests) in
    rw (here, take_all n xs (omega arith), take_all n (xs ++ x ∷ []) fits, flat_map-append, append-nil)
lines_by part n xs x (inr high) =
    let here : nat_lt (length xs) n ≡ false = grind (arith, nat_tests) in
    rw (here, take-append-le n xs (x ∷ []) high, append-nil)

lines_more : (part : Part) (xs : List StartState) (x : StartState) →
    lines_of_starts part (xs ++ x ∷ []) ≡ lines_of_starts part xs ++ (if nat_lt (length xs) 1048576 then start_line part x else [])
unfolding lines_of_starts
lines_more part xs x = lines_by part 1048576 xs x (cases_lt (length xs) 1048576)

-- one that is chosen
pub kept_added : {part : Part} {starts after : List StartState} {text new : List ℕ} {was_short is_short : Bool} {chosen : ℕ} (x : StartState) → IsKept part starts text was_short chosen →
    after ≡ starts ++ x ∷ [] → (is_short ≡ false → was_short ≡ false) →
    (is_short ≡ false → new ≡ text ++ (if nat_lt chosen 1048576 then start_line part x else [])) →
    IsKept part after new is_short (chosen + 1)
kept_added x kept is ok lines =
    record { lines = λ done. lines done ∙ rw (kept.lines (ok done), kept.count, is, lines_more); count = rw (is, length-append, kept.count) }

-- before any start
pub kept_none : (part : Part) (starts : List StartState) (text : List ℕ) (short : Bool) → starts ≡ [] → text ≡ [] → IsKept part starts text short 0
unfolding lines_of_starts
kept_none part starts text short h empty = grind (arith, nat_tests)

-- nothing is counted yet
pub tallied_none : (counts short : Bool) (t : Option Tally) (starts : List StartState) → starts ≡ [] → IfSome t (λ t. tally_seen t ≡ none_tallied) →
    short ≡ (counts && is_none t) → short ≡ false → IsTallied counts t starts
tallied_none false short t starts h empty is ok = λ on. cc
tallied_none true short None starts h empty is ok = cc
tallied_none true short (Some t) starts h empty is ok = λ on. empty ∙ rw h refl

-- one more start that is counted
pub tallied_more : (counts : Bool) (t new : Tally) (starts after : List StartState) (x : StartState) → IsTallied counts (Some t) starts → after ≡ starts ++ x ∷ [] →
    tally_seen new ≡ tally (tally_seen t) x → IsTallied counts (Some new) after
tallied_more counts t new starts after x so_far is more =
    λ on. more ∙ ap (λ (u : Tallied). tally u x) (so_far on) ∙ sym (tally_push none_tallied starts x) ∙ ap (tally_all none_tallied) (sym is)

pub tallied_without : (counts : Bool) (starts after : List StartState) → IsTallied counts None starts → IsTallied counts None after
tallied_without counts starts after so_far = λ on. absurd (so_far on)

-- a start that is not chosen, and a chosen one that was counted before
module _ {choice c : Choice} {trail t d : List StartState} {before b : Option (Option ℕ)} (counted : List StartState) (x : StartState) (one : t ≡ trail) (two : b ≡ before) (three : c ≡ choice)
    (four : d ≡ with_if (is_counted choice x.tick) counted x) where
  pub kept_left : is_chosen c b x.tick x.regs.pc x.watched ≡ false → kept_of t (Some x.watched) d ≡ keep choice (kept_of trail before counted) x
  kept_left is = let no = rw (three, two) at is in rw (one, four, no) refl

  pub kept_more : {after : List StartState} → after ≡ t ++ x ∷ [] → is_chosen c b x.tick x.regs.pc x.watched ≡ true →
      kept_of after (Some x.watched) d ≡ keep choice (kept_of trail before counted) x
  kept_more more is = let yes = rw (three, two) at is in rw (more, one, four, yes) refl
