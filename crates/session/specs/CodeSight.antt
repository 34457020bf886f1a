-- What a side observes that goes ahead on its own.
use Rattle.std.specs.Prelude.{ℕ, zero, suc, ◌≡◌, ◌==◌, nat_lt, Option, None, Some, List, [], ◌∷◌, slice_index, if◌then◌else◌}
use Rattle.beeb_bits.specs.declared.Side.{Side}
use Rattle.tube_chip.specs.declared.Answer.{Answer}
use Rattle.tube_chip.specs.declared.Answer.TheVariants.{Byte, Seen}
use Rattle.tube_chip.specs.declared.Op.{Op}
use Rattle.tube_chip.specs.declared.Op.TheVariants.{Read, Write, Reset}
use Rattle.tube_chip.specs.Act.{Query, access, look}
use Rattle.tube_chip.specs.Events.{Event}
use Rattle.tube_cell.specs.declared.local.Readings.{Readings}
use Rattle.tube_party.specs.Transitions.{Transitions}
use Rattle.tube_side.specs.CodeSteps.{event_at}

-- The answer to each query that a side answers itself.
abbrev pub Sight : Type 0
Sight = Query → Option Answer

-- the byte of a status register; they have the numbers 0, 2, 4 and 6
abbrev pub byte_seen : List ℕ → Op → Option ℕ
byte_seen status (Read number) =
    if number == 0 then Some (slice_index status 0)
    else if number == 2 then Some (slice_index status 1)
    else if number == 4 then Some (slice_index status 2)
    else if number == 6 then Some (slice_index status 3)
    else None
byte_seen status (Write number byte) = None
byte_seen status Reset = None

abbrev pub byte_answer : Option ℕ → Option Answer
byte_answer None = None
byte_answer (Some b) = Some (Byte b)

-- The answers of a chip with these readings: the lines, and the status registers.
abbrev pub readings_seen : Readings → Sight
readings_seen r look = Some (Seen r.lines)
readings_seen r (access op) = byte_answer (byte_seen r.status op)

-- a query that is answered, and the observations after it; none if it is not answered
abbrev pub joins : Side → ℕ → Query → (Answer → List Event) → Option Answer → List Event
joins side t q later None = []
joins side t q later (Some a) = event_at t side q a ∷ later a

-- the observations from a step at tick t on, which asks nothing or a query
abbrev pub observed_by : Sight → Side → ℕ → List Event → (Answer → List Event) → Option Query → List Event
observed_by v side t silent later None = silent
observed_by v side t silent later (Some q) = joins side t q later (v q)

-- The observations of at most `k` steps below a limit, before the first query that the side does
-- not answer itself.
abbrev pub observed_events : {S : Type 0} → Transitions S → Side → Sight → ℕ → ℕ → S → List Event
observed_events m side v limit zero s = []
observed_events m side v limit (suc k) s =
    if nat_lt (m.due s) limit then
    observed_by v side (m.due s) (observed_events m side v limit k (m.next s None)) (λ a. observed_events m side v limit k (m.next s (Some a))) (m.asks s)
    else []

-- each event has the answer to its query
abbrev pub IsSeen : Sight → List Event → Type 0
IsSeen v [] = Unit {0}
IsSeen v (e ∷ events) = (v e.query ≡ Some e.answer) × IsSeen v events
