-- The text of a key script: its events, or its first offending line.
use Rattle.std.specs.Prelude.{ℕ, ◌≡◌, ◌+◌, ◌==◌, ◌&&◌, nat_lt, List, [], ◌∷◌, ◌++◌, length, map, Option, Some, None, Result, Ok, Err, if◌then◌else◌}
use Rattle.digits.specs.Lines.{text_lines}
use Rattle.key_script.specs.declared.Event.{Event}
use Rattle.key_script.specs.declared.ScriptError.{ScriptError}
use Rattle.key_script.specs.declared.ScriptError.TheVariants.{BadLine, BadOrder, TooManyShots}
use Rattle.key_script.specs.Events.{tick_of, is_shot, shots, last_tick}
use Rattle.key_script.specs.Line.{event_of}

-- The fault of an event after others: its tick falls below `last`, that of the last of them, or it
-- is a shot and `taken`, the shots among them, is 256.
abbrev pub fault : ℕ → ℕ → ℕ → Event → Option ScriptError
fault line last taken e =
    if nat_lt (tick_of e) last then Some (BadOrder line)
    else if is_shot e && taken == 256 then Some (TooManyShots line)
    else None

-- the error, if there is one, otherwise the result
abbrev pub unless : Option ScriptError → Result (List Event) ScriptError → Result (List Event) ScriptError
unless (Some error) read = Err error
unless None read = read

-- The meaning of lines after those of some events: all events, or an error at the first line that
-- is outside the form, or whose event breaks a rule.
abbrev pub events_behind : List Event → List (Option Event) → Result (List Event) ScriptError
events_behind before [] = Ok before
events_behind before (None ∷ lines) = Err (BadLine (length before + 1))
events_behind before (Some e ∷ lines) = unless (fault (length before + 1) (last_tick before) (shots before) e) (events_behind (before ++ e ∷ []) lines)

-- the events of a text's lines, or none for a line that is outside the form
abbrev pub events_of : List ℕ → List (Option Event)
events_of text = map event_of (text_lines text)

-- the first line of a text is outside the form
abbrev pub BeginsBadly : List ℕ → Type 0
BeginsBadly text = (more : List (Option Event)) × (events_of text ≡ None ∷ more)

-- The meaning of a text as a key script. Lines count from 1.
unfoldable pub script : List ℕ → Result (List Event) ScriptError
script text = events_behind [] (events_of text)
