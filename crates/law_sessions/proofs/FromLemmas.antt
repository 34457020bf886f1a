-- A listing from a tick on.
use Rattle.std.proofs.Common.{◌≡◌, refl, ap, ap₂, arith, ℕ, Bool, true, false, ◌&&◌, nat_le}
use Rattle.std.proofs.Common.{List, [], ◌∷◌, Option, Some, None, if◌then◌else◌}
use Rattle.std.specs.Prelude.{filter}
use Rattle.std.proofs.lemmas.Bool.Decides.{nat_tests}
use Rattle.beeb_bits.specs.declared.Side.{Side}
use Rattle.op_table.specs.declared.names.Part.{Part}
use Rattle.tube_trace.specs.declared.Entry.{Entry}
use Rattle.tube_party.specs.Transitions.{Transitions}
use Rattle.follow.specs.declared.Choice.{Choice}
use Rattle.follow.specs.Sight.{Sight}
use Rattle.follow.specs.Start.{StartState}
use Rattle.follow.specs.Counts.{counted_of}
use Rattle.follow.specs.Listing.{is_at, is_in, has_changed, chosen_from, chosen_of, run_of, starts_of, listing_of_chosen}
use Rattle.law_sessions.specs.OutputOptions.{with_from, starts_from, FromLeavesOut}

from_zero : (n : ℕ) → nat_le 0 n ≡ true
from_zero n = grind (arith, nat_tests)

module _ (from : ℕ) (x : StartState) (ys zs : List StartState) (same : zs ≡ starts_from from ys) where
  kept : (r : Bool) → nat_le from x.tick ≡ true → (if r then x ∷ zs else zs) ≡ starts_from from (if r then x ∷ ys else ys)
  kept true late = rw late (ap (λ l. x ∷ l) same)
  kept false late = same

  left_out : (r : Bool) → nat_le from x.tick ≡ false → zs ≡ starts_from from (if r then x ∷ ys else ys)
  left_out true late = rw late same
  left_out false late = same

  chosen_by : (late a b c : Bool) → nat_le from x.tick ≡ late
      → (if late && a && b && c then x ∷ zs else zs) ≡ starts_from from (if true && a && b && c then x ∷ ys else ys)
  chosen_by true a b c is = kept (true && a && b && c) is
  chosen_by false a b c is = left_out (true && a && b && c) is

  counted_by : (counts late : Bool) → nat_le from x.tick ≡ late
      → (if counts && late then x ∷ zs else zs) ≡ starts_from from (if counts && true then x ∷ ys else ys)
  counted_by true true is = kept true is
  counted_by true false is = left_out true is
  counted_by false late is = same

module _ (from : ℕ) (choice : Choice) where
  pub chosen_later : (before : Option (Option ℕ)) (starts : List StartState)
      → chosen_from (with_from from choice) before starts ≡ starts_from from (chosen_from (with_from 0 choice) before starts)
  chosen_later before [] = refl
  chosen_later before (x ∷ xs) =
      rw (from_zero x.tick)
      (chosen_by from x (chosen_from (with_from 0 choice) (Some x.watched) xs) (chosen_from (with_from from choice) (Some x.watched) xs)
      (chosen_later (Some x.watched) xs)
      (nat_le from x.tick) (is_at choice.at x.regs.pc) (is_in choice.points x.regs.pc) (has_changed choice.watch before x.watched) refl)

  counted_later : (starts : List StartState) → counted_of (with_from from choice) starts ≡ starts_from from (counted_of (with_from 0 choice) starts)
  counted_later [] = refl
  counted_later (x ∷ xs) =
      rw (from_zero x.tick)
      (counted_by from x (counted_of (with_from 0 choice) xs) (counted_of (with_from from choice) xs) (counted_later xs) choice.counts
      (nat_le from x.tick) refl)

pub from_leaves_out : {S : Type 0} (m : Transitions S) (sights : S → Sight) (part : Part) (side : Side) → FromLeavesOut m sights part side
from_leaves_out m sights part side trace n choice s =
    let starts : List StartState = starts_of m sights choice.watch (run_of m side trace n s) in (
      chosen_of (with_from 0 choice) starts,
      counted_of (with_from 0 choice) starts,
      λ from. ap₂ (listing_of_chosen part choice n) (chosen_later from choice None starts) (counted_later from choice starts),
    )
