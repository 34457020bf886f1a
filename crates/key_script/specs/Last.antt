-- The value of the last event of a kind.
use Rattle.std.specs.Prelude.{ℕ, nat_le, List, [], ◌∷◌, Option, Some, None, if◌then◌else◌}
use Rattle.key_script.specs.declared.Event.{Event}
use Rattle.key_script.specs.declared.What.{What}
use Rattle.key_script.specs.Events.{tick_of}

-- the value of an event, if it is of the kind and has a tick at most t
abbrev pub said_by : {A : Type 0} → (What → Option A) → ℕ → Event → Option A
said_by kind t e = if nat_le (tick_of e) t then kind e.what else None

abbrev pub or_earlier : {A : Type 0} → Option A → Option A → Option A
or_earlier (Some last) earlier = Some last
or_earlier None earlier = earlier

-- the value of the last event of the kind with a tick at most t, if there is one
abbrev pub last_said : {A : Type 0} → (What → Option A) → ℕ → List Event → Option A
last_said kind t [] = None
last_said kind t (e ∷ events) = or_earlier (last_said kind t events) (said_by kind t e)
