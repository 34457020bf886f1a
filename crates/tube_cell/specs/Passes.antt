-- What a contract sees of a pass, and how calls change it.
use Rattle.std.specs.Prelude.{◌≡◌, ◌≢◌, ℕ, ◌+◌, ◌<◌, ◌≤◌, if◌then◌else◌, List, [], ◌∷◌, ◌++◌}
use Rattle.atomic_table.specs.Seated.{TableId}
use Rattle.beeb_bits.specs.declared.Side.{Side}
use Rattle.tube_chip.specs.declared.Op.{Op}
use Rattle.tube_chip.specs.declared.Answer.TheVariants.{Byte, Seen}
use Rattle.tube_chip.specs.declared.Lines.{Lines}
use Rattle.tube_chip.specs.State.{State}
use Rattle.tube_chip.specs.Act.{access, look, answer_of, chip_after}
use Rattle.tube_chip.specs.Events.{Event, after_from}
use Rattle.tube_cell.specs.Views.{CellSnapshot, new_snapshot, View, one_side, word_of, word_of_other, own_bound, known_with, bound_at, has_access, horizon, below, spec_horizon_next, spec_horizon_after}
use Rattle.tube_cell.specs.Rules.{rise, confirmed, unconfirmed_events, SpecHorizons}

-- A side's pass: its cell and side; its confirmed events, its speculative events and its
-- unpublished events; the words that it knows; the number of its exchanges that published an
-- access; and the number of rises of the other's known bound.
pub record PassState : Type 0 where
  pub cell : TableId
  pub side : Side
  pub events : List Event
  pub speculative : List Event
  pub ahead : List Event
  pub known : CellSnapshot
  pub commits : ℕ
  pub higher : ℕ

abbrev pub pass_state_of : TableId → Side → View → PassState
pass_state_of id s v = record { cell = id; side = s; events = v.mine; speculative = v.speculative; ahead = v.ahead; known = v.known; commits = v.commits; higher = v.higher }

-- a side's pass after the split
abbrev pub starts : TableId → Side → PassState
starts id s = record { cell = id; side = s; events = []; speculative = []; ahead = []; known = new_snapshot; commits = 0; higher = 0 }

-- its own horizon: at or above its bound, and after its last event
abbrev pub own_horizon : PassState → ℕ
own_horizon p = horizon (own_bound p.side p.known) (p.events ++ p.ahead)

-- The words found are known, and speculative events that they confirm join the list. Otherwise only
-- `higher` may have changed. The own word is unchanged, and the other's has not fallen. In the
-- parasite's pass, a speculative horizon at or below the host's word is unchanged.
pub record Learns (p q : PassState) : Type 0 where
  pub rest : q ≡ record p {
    events = p.events ++ confirmed q.known p.speculative;
    speculative = unconfirmed_events q.known p.speculative;
    known = q.known;
    higher = p.higher + rise (one_side p.side) p.known q.known;
  }
  -- the speculative horizon fell: what lies below it is confirmed, and the rest is dropped
  pub taken : q.known.spec_horizon < p.known.spec_horizon → (q.events ≡ p.events ++ below q.known.spec_horizon p.speculative) × (q.speculative ≡ [])
  -- it is unchanged and the host has reached it: all is confirmed
  pub settled : q.known.spec_horizon ≡ p.known.spec_horizon → q.known.spec_horizon ≤ q.known.host → (q.events ≡ p.events ++ p.speculative) × (q.speculative ≡ [])
  -- the host has not reached it: all stay speculative
  pub stays : q.known.host < q.known.spec_horizon → (q.events ≡ p.events) × (q.speculative ≡ p.speculative)
  -- if nothing is speculative, no event joined the list
  pub plain : p.speculative ≡ [] → q ≡ record p { known = q.known; higher = p.higher + rise (one_side p.side) p.known q.known }
  pub own_word : word_of p.side q.known ≡ word_of p.side p.known
  pub other_word : word_of_other p.side p.known ≤ word_of_other p.side q.known
  pub spec_horizon : SpecHorizons p.side p.known q.known
  pub horizon : own_horizon q ≤ own_horizon p
  -- if there are unpublished events, only the other's word and the speculative horizon may differ
  pub same_chip : p.ahead ≢ [] → q.known.chip ≡ p.known.chip

-- the own word is t, and nothing more changed
abbrev pub after_raise : PassState → ℕ → PassState
after_raise p t = record p { known = known_with p.side p.known.chip t (word_of_other p.side p.known) p.known.spec_horizon }

abbrev pub access_at : ℕ → Side → Op → State → Event
access_at t s op c = record { tick = t; side = s; query = access op; answer = Byte (answer_of c s op) }

abbrev pub lines_at : ℕ → Side → Lines → Event
lines_at t s lines = record { tick = t; side = s; query = look; answer = Seen lines }

-- The access joined the list, the chip is the one after it, and the own word is its tick plus 1. If
-- the host's access changed what the parasite observes, the speculative horizon fell to its tick.
abbrev pub after_commit : PassState → ℕ → Op → PassState
after_commit p t op = record p {
  events = p.events ++ access_at t p.side op p.known.chip ∷ [];
  known = known_with p.side (chip_after p.known.chip p.side op) (t + 1) (word_of_other p.side p.known)
      (spec_horizon_next p.side p.known.chip (chip_after p.known.chip p.side op) t p.known.spec_horizon);
  commits = p.commits + 1;
}

-- the look joined the list
abbrev pub after_look : PassState → ℕ → Lines → PassState
after_look p t lines = record p { events = p.events ++ lines_at t p.side lines ∷ [] }

-- the local chip, the speculative horizon and the other's bound: the known ones after the
-- unpublished events
abbrev pub here : PassState → State
here p = after_from p.known.chip p.ahead

abbrev pub spec_horizon_here : PassState → ℕ
spec_horizon_here p = spec_horizon_after p.side p.known.chip p.known.spec_horizon p.ahead

abbrev pub bound_here : PassState → ℕ
bound_here p = bound_at p.side (word_of_other p.side p.known) (spec_horizon_here p)

-- the events are done but not published
abbrev pub after_add : PassState → List Event → PassState
after_add p events = record p { ahead = p.ahead ++ events }

-- the unpublished events joined the list; the cell has the chip after them, own word `h` and the
-- speculative horizon after them
abbrev pub after_publish : PassState → ℕ → PassState
after_publish p h = record p {
  events = p.events ++ p.ahead;
  ahead = [];
  known = known_with p.side (here p) h (word_of_other p.side p.known) (spec_horizon_here p);
  commits = p.commits + (if has_access p.ahead then 1 else 0);
}

-- the events are on the list speculatively, and the speculative horizon is t
abbrev pub after_speculate : PassState → List Event → ℕ → PassState
after_speculate p events t = record p { speculative = p.speculative ++ events; known = record p.known { spec_horizon = t } }
