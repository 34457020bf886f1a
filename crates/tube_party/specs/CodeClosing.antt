-- The state after a state is closed.
use Rattle.std.specs.Prelude.{ℕ, ◌≡◌, ◌≤◌, max, Option, List, ◌++◌}
use Rattle.beeb_bits.specs.declared.Side.{Side}
use Rattle.tube_chip.specs.declared.Answer.{Answer}
use Rattle.tube_chip.specs.Events.{Event}
use Rattle.tube_party.specs.Transitions.{Transitions, Follows, close_leaves}

-- The state, closed at n, holds the device steps below n and those that it held before. Its next
-- step is unchanged, and closing it further at k is closing it at k at once.
pub record IsShut {S : Type 0} (m : Transitions S) (s : S) (n : ℕ) : Type 0 where
  pub closed : m.closed (close_leaves m s n) ≡ max n (m.closed s)
  pub due : m.due (close_leaves m s n) ≡ m.due s
  pub asks : m.asks (close_leaves m s n) ≡ m.asks s
  pub next : (a : Option Answer) → m.next (close_leaves m s n) a ≡ m.next s a
  pub again : (k : ℕ) → n ≤ k → k ≤ m.due s → close_leaves m (close_leaves m s n) k ≡ close_leaves m s k

-- A state may be closed at a tick that is not above its next step's.
abbrev pub MayBeShut : {S : Type 0} → Transitions S → Type 0
MayBeShut {S} m = (s : S) (n : ℕ) → n ≤ m.due s → IsShut m s n

-- A party that follows a list up to n, and from its end another up to k, follows both up to k.
abbrev pub FollowsOn : {S : Type 0} → Transitions S → Type 0
FollowsOn {S} m =
    (side : Side) (s u v : S) (a b : List Event) (n k : ℕ) →
    n ≤ k →
    Follows m side s a n u →
    Follows m side u b k v →
    Follows m side s (a ++ b) k v
