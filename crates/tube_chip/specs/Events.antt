-- Events, their order, their merge, and the lists of them that the chip yields.
use Rattle.std.specs.Prelude.{ℕ, ◌≡◌, List, [], ◌∷◌, Bool, true, false, IsTrue, nat_lt, if◌then◌else◌}
use Rattle.beeb_bits.specs.Order.{before}
use Rattle.beeb_bits.specs.declared.Side.{Side}
use Rattle.beeb_bits.specs.declared.Side.TheVariants.{Host, Para}
use Rattle.tube_chip.specs.declared.Answer.{Answer}
use Rattle.tube_chip.specs.State.{State, power_on}
use Rattle.tube_chip.specs.Act.{Query, act}

-- An access or a look, with its answer.
pub record Event : Type 0 where
  pub tick : ℕ
  pub side : Side
  pub query : Query
  pub answer : Answer

-- e comes before f: at a smaller tick, or at the same tick and the host's before the parasite's
abbrev pub IsBefore : Event → Event → Type 0
IsBefore e f = IsTrue (before e.tick e.side f.tick f.side)

abbrev pub RisesAfter : Event → List Event → Type 0
RisesAfter e [] = Unit {0}
RisesAfter e (f ∷ events) = IsBefore e f × RisesAfter f events

-- each event comes before the next
abbrev pub Rises : List Event → Type 0
Rises [] = Unit {0}
Rises (e ∷ events) = RisesAfter e events

-- each answer is the chip's, from chip c on
abbrev pub IsAnsweredFrom : State → List Event → Type 0
IsAnsweredFrom c [] = Unit {0}
IsAnsweredFrom c (e ∷ events) = ((act c e.side e.query).1 ≡ e.answer) × IsAnsweredFrom (act c e.side e.query).0 events

-- the chip after the events, from chip c on
abbrev pub after_from : State → List Event → State
after_from c [] = c
after_from c (e ∷ events) = after_from (act c e.side e.query).0 events

-- the chip after the events, from power-on
abbrev pub after : List Event → State
after events = after_from power_on events

-- A legal list: each event comes before the next, and each answer is the chip's.
pub record IsLegal (events : List Event) : Type 0 where
  pub rises : Rises events
  pub answered : IsAnsweredFrom power_on events

-- a host's event in front of those of the parasite's that it precedes; `rest` merges the others
abbrev pub put_in : Event → (List Event → List Event) → List Event → List Event
put_in a rest [] = a ∷ rest []
put_in a rest (b ∷ para) = if nat_lt b.tick a.tick then b ∷ put_in a rest para else a ∷ rest (b ∷ para)

-- The events of a host's list and a parasite's list in their order: by tick, and at equal ticks the
-- host's first.
abbrev pub merge : List Event → List Event → List Event
merge [] para = para
merge (a ∷ host) para = put_in a (merge host) para

abbrev pub is_side : Side → Side → Bool
is_side Host Host = true
is_side Para Para = true
is_side Host Para = false
is_side Para Host = false

-- the events of one side
abbrev pub of_side : Side → List Event → List Event
of_side side [] = []
of_side side (e ∷ events) = if is_side side e.side then e ∷ of_side side events else of_side side events
