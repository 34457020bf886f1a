-- The keys, by a key script. BREAK is not in the keyboard's matrix: it goes to the reset line.
-- (Acorn, BBC Microcomputer Advanced User Guide.)
use Rattle.std.specs.Prelude.{ℕ, ◌==◌, Bool, true, false, List, Option, Some, None, unwrap_or, if◌then◌else◌}
use Rattle.key_script.specs.declared.Event.{Event}
use Rattle.key_script.specs.declared.What.{What}
use Rattle.key_script.specs.declared.What.TheVariants.{Down, Up, Shot, Break, Level}
use Rattle.key_script.specs.Last.{said_by, last_said}

-- the state of a key after an event for it
abbrev pub made_of : ℕ → What → Option Bool
made_of key (Down k) = if k == key then Some true else None
made_of key (Up k) = if k == key then Some false else None
made_of key Shot = None
made_of key Break = None
made_of key (Level channel level) = None

-- the state of a key after an event for it, if the event has a tick at most t
abbrev pub made_by : ℕ → ℕ → Event → Option Bool
made_by key t e = said_by (made_of key) t e

-- the state of a key after the last event for it with a tick at most t, if there is one
abbrev pub last_made : ℕ → ℕ → List Event → Option Bool
last_made key t events = last_said (made_of key) t events

-- The state of a key at tick t is that of the last event for it with a tick at most t. It is up if
-- there is none.
abbrev pub is_down : ℕ → ℕ → List Event → Bool
is_down key t events = unwrap_or (last_made key t events) false
