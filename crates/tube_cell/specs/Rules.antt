-- The rule of the cell, and what each step does to a view.
use Rattle.std.specs.Prelude.{◌≡◌, ◌≢◌, ◌⊎◌, ℕ, ◌+◌, ◌<◌, ◌≤◌, max, nat_lt, nat_le, List, [], ◌∷◌, ◌++◌, true, false, if◌then◌else◌, MatchBool}
use Rattle.std.specs.List.{All}
use mathlib.Core.Option.{some}
use lib.ListN.{get_elem?}
use Rattle.beeb_bits.specs.declared.Side.{Side}
use Rattle.beeb_bits.specs.declared.Side.TheVariants.{Host, Para}
use Rattle.tube_chip.specs.declared.Answer.TheVariants.{Seen}
use Rattle.tube_chip.specs.State.{State, lines_of}
use Rattle.tube_chip.specs.Act.{look}
use Rattle.tube_chip.specs.Events.{Event, merge, after, IsLegal}
use Rattle.tube_chip.specs.Packing.{IsChip}
use Rattle.tube_cell.specs.Views.{CellSnapshot, words_of, new_snapshot, Role, undivided, one_side, rejoined, used, View, word_of, word_of_other, own_bound}
use Rattle.tube_cell.specs.Views.{other_bound, Admits, admits, below, is_access, is_observation, has_access}

-- each event is at tick `from` or later, and after the event before it
abbrev pub Climbs : ℕ → List Event → Type 0
Climbs from [] = Unit {0}
Climbs from (e ∷ events) = (from ≤ e.tick) × Climbs (e.tick + 1) events

-- The host's list: its accesses lie below the host's word, and no event lies above the parasite's
-- bound.
pub record HostListOk (k : CellSnapshot) (events : List Event) : Type 0 where
  pub sided : All (λ e. e.side ≡ Host) events
  pub below_own : All (λ e. is_access e.query ≡ true → e.tick < k.host) events
  pub admitted : All (λ e. e.tick ≤ own_bound Para k) events
  pub climbs : Climbs 0 events

-- The parasite's list: its accesses lie below its bound, and below the host's word or the
-- speculative horizon. Accesses that change the chip lie below both words. Looks may lie at any
-- tick.
pub record ParaListOk (k : CellSnapshot) (events : List Event) : Type 0 where
  pub sided : All (λ e. e.side ≡ Para) events
  pub below_own : All (λ e. is_access e.query ≡ true → e.tick < own_bound Para k) events
  pub admitted : All (λ e. is_access e.query ≡ true → e.tick < max k.host k.spec_horizon) events
  pub changes : All (λ e. is_observation e.query ≡ false → (e.tick < k.para) × (e.tick < k.host)) events
  pub climbs : Climbs 0 events

-- The chip is the one after the merge of both lists, the merge is legal, and both lists keep their
-- bounds.
pub record Consistent (k : CellSnapshot) (host para : List Event) : Type 0 where
  pub chip_is : k.chip ≡ after (merge host para)
  pub legal : IsLegal (merge host para)
  pub host_fine : HostListOk k host
  pub para_fine : ParaListOk k para

-- The speculative horizon, compared with what a side knows of it. For the host it has not fallen.
-- For the parasite it is unchanged, or the host lowered it: to a tick at or above the host's word
-- that the parasite knows, and below the host's word now.
abbrev pub SpecHorizons : Side → CellSnapshot → CellSnapshot → Type 0
SpecHorizons Host known k = known.spec_horizon ≤ k.spec_horizon
SpecHorizons Para known k = (k.spec_horizon ≡ known.spec_horizon) ⊎ ((known.host ≤ k.spec_horizon) × (k.spec_horizon < known.spec_horizon) × (k.spec_horizon < k.host))

-- A pass of side `s` knows its own word exactly, and a lower bound of the other's. If the other's
-- bound that it knows admits its own, it knows the chip exactly.
pub record Knows (s : Side) (k known : CellSnapshot) : Type 0 where
  pub well : IsChip known.chip
  pub own_word : word_of s known ≡ word_of s k
  pub other_word : word_of_other s known ≤ word_of_other s k
  pub spec_horizon : SpecHorizons s known k
  pub same_chip : Admits s (other_bound s known) (own_bound s known) → known.chip ≡ k.chip

module _ (k : CellSnapshot) (host para : List Event) (host_seat para_seat : ℕ) where
  -- What a pass with number `j` and view `v` fulfils, by its role. The parasite's list is the
  -- pass's confirmed events, all below the host's word, and then its speculative events below the
  -- speculative horizon. The host lowers that horizon only to ticks from its own word on, so it
  -- drops no confirmed event.
  abbrev pub FitsAs : Role → ℕ → View → Type 0
  FitsAs undivided j v = (j ≡ host_seat) × (j ≡ para_seat) × (v.mine ≡ host) × (v.theirs ≡ para) × (v.speculative ≡ []) × All (λ e. e.tick < k.host) para × (v.known ≡ k)
  FitsAs (one_side Host) j v = (j ≡ host_seat) × (v.mine ≡ host) × (v.speculative ≡ []) × Knows Host k v.known
  FitsAs (one_side Para) j v = (j ≡ para_seat) × (para ≡ v.mine ++ below k.spec_horizon v.speculative) × All (λ e. e.tick < k.host) v.mine × Knows Para k v.known
  FitsAs rejoined j v = (j ≡ host_seat) × (j ≡ para_seat) × (v.mine ≡ host) × (v.theirs ≡ para)
  FitsAs used j v = Unit {0}

-- The rule: the words represent a host's list and a parasite's list, and each pass fits both lists.
pub record CellInvariant (words : List ℕ) (views : List View) : Type 0 where
  pub known : CellSnapshot
  pub host : List Event
  pub para : List Event
  pub host_seat : ℕ
  pub para_seat : ℕ
  pub words_are : words ≡ words_of known
  pub well : IsChip known.chip
  pub good : Consistent known host para
  pub each : (j : ℕ) (v : View) → get_elem? views j ≡ some v → FitsAs known host para host_seat para_seat v.role j v

-- ---- The views at the start and at the end

abbrev pub whole : View
whole = record { role = undivided; mine = []; theirs = []; speculative = []; ahead = []; known = new_snapshot; commits = 0; higher = 0 }

abbrev pub spent_view : View
spent_view = record whole { role = used }

abbrev pub host_part : View → View
host_part v = record v { role = one_side Host }

abbrev pub para_part : View → View
para_part v = record v { role = one_side Para; mine = v.theirs }

abbrev pub joined_view : View → View → View
joined_view v w = record v { role = rejoined; theirs = w.mine }

-- ---- What a step does

-- From the words `k` that one side's pass knows to words `k'` found later: the own word stays, the
-- other's does not fall, and the speculative horizon obeys `SpecHorizons`. If the known bound
-- admits the own, the chip stays too.
abbrev pub GoesOn : Role → CellSnapshot → CellSnapshot → Type 0
GoesOn (one_side s) k k' =
    (word_of s k' ≡ word_of s k) × (word_of_other s k ≤ word_of_other s k') × SpecHorizons s k k' × (Admits s (other_bound s k) (own_bound s k) → k.chip ≡ k'.chip)
GoesOn r k k' = Unit {0}

-- 1 if the known bound of the other rises
abbrev pub rise : Role → CellSnapshot → CellSnapshot → ℕ
rise (one_side s) k k' = if nat_lt (other_bound s k) (other_bound s k') then 1 else 0
rise r k k' = 0

-- The speculative events that these words confirm: if the host has reached the speculative horizon,
-- those below it.
abbrev pub confirmed : CellSnapshot → List Event → List Event
confirmed k [] = []
confirmed k (e ∷ events) = if nat_le k.spec_horizon k.host then below k.spec_horizon (e ∷ events) else []

-- the speculative events that stay unconfirmed: all, if the host has not reached the speculative
-- horizon
abbrev pub unconfirmed_events : CellSnapshot → List Event → List Event
unconfirmed_events k [] = []
unconfirmed_events k (e ∷ events) = if nat_le k.spec_horizon k.host then [] else e ∷ events

-- the view that knows the words found
abbrev pub found_view : View → CellSnapshot → View
found_view v k = record v {
  mine = v.mine ++ confirmed k v.speculative;
  speculative = unconfirmed_events k v.speculative;
  known = k;
  higher = v.higher + rise v.role v.known k;
}

-- the words were found, and are known
pub record Found (words : List ℕ) (v w : View) : Type 0 where
  pub well : IsChip w.known.chip
  pub words_are : words ≡ words_of w.known
  pub view_is : w ≡ found_view v w.known
  pub goes_on : GoesOn v.role v.known w.known

-- learn, and a failed exchange
abbrev pub Finds : View → List ℕ → List ℕ → View → Type 0
Finds v x y w = Found x v w

-- an exchange: if the words were those known, the view is `next v`; otherwise it failed
pub record Exchanged (next : View → View) (v : View) (x y : List ℕ) (w : View) : Type 0 where
  pub hit : x ≡ words_of v.known → w ≡ next v
  pub missed : x ≢ words_of v.known → Finds v x y w

-- the view after these events and words are published
abbrev pub published_view : View → List Event → CellSnapshot → View
published_view v events next = record v { mine = v.mine ++ events; ahead = []; known = next; commits = v.commits + (if has_access events then 1 else 0) }

-- raise, commit and publish: if the words were those known, the events join the list and the words
-- become `next`; otherwise a failed exchange
abbrev pub Publishes : List Event → CellSnapshot → View → List ℕ → List ℕ → View → Type 0
Publishes events next = Exchanged (λ v. published_view v events next)

-- the view after these events join the list speculatively, with these words in the cell
abbrev pub speculated_view : View → List Event → CellSnapshot → View
speculated_view v events next = record v { speculative = v.speculative ++ events; known = next }

-- speculate: if the words were those known, the events join the list speculatively; otherwise a
-- failed exchange
abbrev pub Speculates : List Event → CellSnapshot → View → List ℕ → List ℕ → View → Type 0
Speculates events next = Exchanged (λ v. speculated_view v events next)

-- the view after some events are published and others join the list speculatively, with these words
-- in the cell
abbrev pub told_view : View → List Event → List Event → CellSnapshot → View
told_view v events speculative next = speculated_view (published_view v events next) speculative next

-- publish_and_speculate: if the words were those known, some events join the list and others join
-- it speculatively; otherwise a failed exchange
abbrev pub PublishesAndSpeculates : List Event → List Event → CellSnapshot → View → List ℕ → List ℕ → View → Type 0
PublishesAndSpeculates events speculative next = Exchanged (λ v. told_view v events speculative next)

-- the view after these events are done but not published
abbrev pub added_view : View → List Event → View
added_view v events = record v { ahead = v.ahead ++ events }

-- a look at this tick
abbrev pub look_at : ℕ → Side → State → Event
look_at t s c = record { tick = t; side = s; query = look; answer = Seen (lines_of c) }

abbrev pub looked_view : View → ℕ → Side → CellSnapshot → View
looked_view v t s k = record (found_view v k) { mine = v.mine ++ look_at t s k.chip ∷ [] }

-- look: if the words found admit the tick, a look at it joins the list; otherwise a learn
abbrev pub LooksAs : ℕ → Role → View → List ℕ → View → Type 0
LooksAs t (one_side s) v x w =
    IsChip w.known.chip × (x ≡ words_of w.known) × GoesOn (one_side s) v.known w.known
    × MatchBool (admits s (other_bound s w.known) t) (w ≡ looked_view v t s w.known) (w ≡ found_view v w.known)
LooksAs t r v x w = Unit {0}

abbrev pub Looks : ℕ → View → List ℕ → List ℕ → View → Type 0
Looks t v x y w = LooksAs t v.role v x w

-- the words at the end of a join: the chip is the one after the legal merge of both lists
pub record Ended (v : View) (words : List ℕ) : Type 0 where
  pub known : CellSnapshot
  pub well : IsChip known.chip
  pub words_are : words ≡ words_of known
  pub chip_is : known.chip ≡ after (merge v.mine v.theirs)
  pub legal : IsLegal (merge v.mine v.theirs)

-- the load that ends a join
abbrev pub Ends : View → List ℕ → List ℕ → View → Type 0
Ends v x y w = Ended v x
