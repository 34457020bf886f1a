-- A key script as keys that are pressed and released. (This project's own format.)
use Rattle.std.specs.Prelude.{ℕ, ◌≡◌, nat_le, true, false, List, [], ◌∷◌, if◌then◌else◌}
use Rattle.key_script.specs.declared.Event.{Event}
use Rattle.key_script.specs.declared.What.{What}
use Rattle.key_script.specs.declared.What.TheVariants.{Down, Up, Shot, Break, Level}
use Rattle.key_script.specs.Events.{tick_of}
use Rattle.key_script.specs.Keys.{is_down}
use Rattle.keyboard.specs.Keys.{Keys, no_key, with_key}

-- the keys after an event
abbrev pub keys_after : What → Keys → Keys
keys_after (Down key) keys = with_key key true keys
keys_after (Up key) keys = with_key key false keys
keys_after Shot keys = keys
keys_after Break keys = keys
keys_after (Level channel level) keys = keys

-- the keys after those events of a script that have come by tick `t`, one after the other
abbrev pub typed_by : ℕ → List Event → Keys → Keys
typed_by t [] keys = keys
typed_by t (e ∷ events) keys = typed_by t events (if nat_le (tick_of e) t then keys_after e.what keys else keys)

-- At every tick each key is as the events up to that tick leave it. All keys are up at the
-- beginning.
abbrev pub ScriptIsTyped : Type 0
ScriptIsTyped = (events : List Event) (key t : ℕ) → is_down key t events ≡ typed_by t events no_key key
