-- What is asked at a turn, what is stored of it, and the side whose turn is next.
use Rattle.std.specs.Prelude.{ℕ, ◌≡◌, ◌+◌, ◌-◌, ◌<◌, ◌≤◌, nat_lt, Option, None, Some, List, [], ◌∷◌, ◌++◌, length, if◌then◌else◌}
use Rattle.beeb_bits.specs.declared.Side.{Side}
use Rattle.beeb_bits.specs.declared.Side.TheVariants.{Host, Para}
use Rattle.tube_chip.specs.Act.{access, look}
use Rattle.tube_trace.specs.declared.Entry.{Entry}
use Rattle.tube_party.specs.declared.party.Ask.{Ask}
use Rattle.tube_party.specs.declared.party.Ask.TheVariants.{Nothing, Access, Look}
use Rattle.tube_party.specs.Transitions.{Transitions}

-- one more entry, while there are fewer than `keep`
abbrev pub note_leaves : ℕ → List Entry → Entry → List Entry
note_leaves keep list entry = if nat_lt (length list) keep then list ++ entry ∷ [] else list

abbrev pub note_all_leaves : ℕ → List Entry → List Entry → List Entry
note_all_leaves keep list [] = list
note_all_leaves keep list (x ∷ xs) = note_all_leaves keep (note_leaves keep list x) xs

-- this is asked by the next step, which is below n
abbrev pub IsPending : {S : Type 0} → Transitions S → ℕ → S → Ask → Type 0
IsPending m n s Nothing = ⊥
IsPending m n s (Access t op) = (t.0 ≡ m.due s) × (t.0 < n) × (m.asks s ≡ Some (access op))
IsPending m n s (Look t) = (t.0 ≡ m.due s) × (t.0 < n) × (m.asks s ≡ Some look)

-- the tick of an ask, or 0 for `Nothing`
abbrev pub tick_of : Ask → ℕ
tick_of Nothing = 0
tick_of (Access t op) = t.0
tick_of (Look t) = t.0

-- the side whose step comes first: the host, unless the parasite's step is at a smaller tick
abbrev pub first_due : ℕ → ℕ → Side
first_due t u = if nat_lt u t then Para else Host

-- the side whose ask comes first, if one asks
abbrev pub first_of : Ask → Ask → Option Side
first_of Nothing Nothing = None
first_of Nothing (Access u op) = Some Para
first_of Nothing (Look u) = Some Para
first_of (Access t op) Nothing = Some Host
first_of (Look t) Nothing = Some Host
first_of (Access t op) (Access u po) = Some (first_due t.0 u.0)
first_of (Access t op) (Look u) = Some (first_due t.0 u.0)
first_of (Look t) (Access u po) = Some (first_due t.0 u.0)
first_of (Look t) (Look u) = Some (first_due t.0 u.0)

-- the number of ticks from an ask to n
abbrev pub ticks_left : ℕ → Ask → ℕ
ticks_left n Nothing = 0
ticks_left n (Access t op) = n - t.0
ticks_left n (Look t) = n - t.0

-- Looks of the other side below `safe_until` meet the chip as it is: that tick is at most
-- `tie_offset` ticks after this party's ask, if it asks.
abbrev pub IsSafe : ℕ → Ask → ℕ → Type 0
IsSafe tie_offset Nothing safe_until = Unit {0}
IsSafe tie_offset (Access t op) safe_until = safe_until ≤ t.0 + tie_offset
IsSafe tie_offset (Look t) safe_until = safe_until ≤ t.0 + tie_offset
