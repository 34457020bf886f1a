-- The part of a trace that is left for one side's machine.
use Rattle.std.specs.Prelude.{ℕ, ◌+◌, ◌≡◌, ◌&&◌, nat_lt, true, false, List, [], ◌∷◌, drop, slice_get, MatchOption}
use Rattle.beeb_bits.specs.declared.Side.{Side}
use Rattle.tube_chip.specs.declared.Op.{Op}
use Rattle.tube_chip.specs.Events.{is_side}
use Rattle.tube_trace.specs.declared.Entry.{Entry}
use Rattle.tube_party.specs.Replay.{Numbered, own_from, is_that}

-- the side's entries below n from index `at` on, with their lines
abbrev pub own_left : List Entry → Side → ℕ → ℕ → List Numbered
own_left trace side n at = own_from side n (at + 1) (drop at trace)

-- the index is past the trace, or has an entry of the side below n
abbrev pub IsOwnAt : List Entry → Side → ℕ → ℕ → Type 0
IsOwnAt trace side n at = MatchOption (slice_get trace at) (Unit {0}) (λ x. (is_side side x.side && nat_lt (x.tick).0 n) ≡ true)

-- the next entry is this access with this answer, and the others are left
pub record Takes (left others : List Numbered) (tick : ℕ) (op : Op) (byte : ℕ) : Type 0 where
  pub next : Numbered
  pub split : left ≡ next ∷ others
  pub that : is_that next.entry tick op ≡ true
  pub answer : next.entry.answer ≡ byte

-- no entry is left, or the next one, at this line, is another access
abbrev pub Misses : List Numbered → ℕ → ℕ → Op → ℕ → Type 0
Misses [] lines tick op line = line ≡ lines + 1
Misses (x ∷ own) lines tick op line = (x.line ≡ line) × (is_that x.entry tick op ≡ false)

-- The side's entries that are left of a trace of `lines` lines.
pub record Owned : Type 0 where
  pub left : List Numbered
  pub lines : ℕ

-- the next entry is this access with this answer, and is no longer left
abbrev pub IsTaken : Owned → ℕ → Op → ℕ → Owned → Type 0
IsTaken old tick op byte new = Takes old.left new.left tick op byte × (new.lines ≡ old.lines)
