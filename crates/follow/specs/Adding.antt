-- Counts add up: the starts to those that a listing without a filter chooses, and the ticks to the
-- time from the first of these starts to the end.
use Rattle.std.specs.Prelude.{ℕ, zero, suc, ◌≡◌, ◌+◌, ◌-◌, ◌≤◌, ◌<◌, true, List, [], ◌∷◌, length, All, None, ⊤}
use Rattle.beeb_bits.specs.declared.Side.{Side}
use Rattle.tube_trace.specs.declared.Entry.{Entry}
use Rattle.tube_party.specs.Transitions.{Transitions}
use Rattle.follow.specs.declared.choice.Choice.{Choice}
use Rattle.follow.specs.Sight.{Sight}
use Rattle.follow.specs.Start.{StartState}
use Rattle.follow.specs.Counts.{counted_of, tick_or, count_at}
use Rattle.follow.specs.Listing.{chosen_of, run_of, starts_of}

-- the sum of f over k addresses from pc on, and over all 65,536
abbrev pub sum_from : ℕ → ℕ → (ℕ → ℕ) → ℕ
sum_from zero pc f = 0
sum_from (suc k) pc f = f pc + sum_from k (pc + 1) f

unfoldable pub sum_of_all : (ℕ → ℕ) → ℕ
sum_of_all f = sum_from 65536 0 f

-- The program counter is an address.
abbrev pub IsPlaced : StartState → Type 0
IsPlaced s = s.regs.pc < 65536

-- lists and counts all starts from tick `from` on
abbrev pub all_from : ℕ → Choice
all_from from = record { from = from; at = None; points = None; watch = None; counts = true }

pub record AddUp (n : ℕ) (starts : List StartState) : Type 0 where
  pub starts_are : sum_of_all (λ pc. (count_at n pc starts).starts) ≡ length starts
  pub ticks_are : sum_of_all (λ pc. (count_at n pc starts).ticks) ≡ n - tick_or n starts

-- A run counts the starts that a listing without a filter chooses, and the counts of all addresses
-- add up.
pub record CountsAddUp {S : Type 0} (m : Transitions S) (sights : S → Sight) : Type 0 where
  pub same : (side : Side) (trace : List Entry) (n from : ℕ) (s : S) →
      counted_of (all_from from) (starts_of m sights None (run_of m side trace n s)) ≡ chosen_of (all_from from) (starts_of m sights None (run_of m side trace n s))
  pub sums : (side : Side) (trace : List Entry) (n from : ℕ) (s : S) →
      All IsPlaced (counted_of (all_from from) (starts_of m sights None (run_of m side trace n s))) →
      AddUp n (counted_of (all_from from) (starts_of m sights None (run_of m side trace n s)))
