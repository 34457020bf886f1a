-- The levels of the analogue converter's four channels, by a key script. (Acorn, BBC Microcomputer
-- Advanced User Guide, analogue to digital converter; the levels are this project's own format.)
use Rattle.std.specs.Prelude.{ℕ, ◌==◌, List, Option, Some, None, unwrap_or, if◌then◌else◌}
use Rattle.key_script.specs.declared.Event.{Event}
use Rattle.key_script.specs.declared.What.{What}
use Rattle.key_script.specs.declared.What.TheVariants.{Down, Up, Shot, Break, Level}
use Rattle.key_script.specs.Last.{last_said}

-- the level of a channel after an event for it
abbrev pub level_given : ℕ → What → Option ℕ
level_given channel (Level c level) = if c == channel then Some level else None
level_given channel (Down key) = None
level_given channel (Up key) = None
level_given channel Shot = None
level_given channel Break = None

-- The level of a channel at tick t is that of the last event for it with a tick at most t. It is 0
-- if there is none.
abbrev pub level_at : ℕ → ℕ → List Event → ℕ
level_at channel t events = unwrap_or (last_said (level_given channel) t events) 0
