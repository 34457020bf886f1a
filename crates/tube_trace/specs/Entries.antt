-- Entries as events, and accesses as entries.
use Rattle.std.specs.Prelude.{ℕ, List, [], ◌∷◌, ◌++◌, map}
use Rattle.beeb_bits.specs.declared.Side.{Side}
use Rattle.tube_chip.specs.declared.Answer.{Answer}
use Rattle.tube_chip.specs.declared.Answer.TheVariants.{Byte, Seen}
use Rattle.tube_chip.specs.Act.{Query, MayDo, access, look}
use Rattle.tube_chip.specs.Events.{Event}
use Rattle.tube_trace.specs.declared.Entry.{Entry}

-- the access that an entry records
abbrev pub event_of : Entry → Event
event_of e = record { tick = (e.tick).0; side = e.side; query = access e.op; answer = Byte e.answer }

abbrev pub events_of : List Entry → List Event
events_of entries = map event_of entries

-- an entry of an operation that its side may do
abbrev pub IsEntry : Entry → Type 0
IsEntry e = MayDo e.side e.op

-- the entry of an event, if it is an access
abbrev pub entry_of : ℕ → Side → Query → Answer → List Entry
entry_of tick side (access op) (Byte b) = record { tick = record { 0 = tick }; side = side; op = op; answer = b } ∷ []
entry_of tick side (access op) (Seen l) = []
entry_of tick side look a = []

-- the accesses of a list of events
abbrev pub accesses : List Event → List Entry
accesses [] = []
accesses (e ∷ events) = entry_of e.tick e.side e.query e.answer ++ accesses events
