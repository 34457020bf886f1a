-- The last event for a key is the one that is set last.
use Rattle.std.proofs.Common.{arith, ◌≡◌, ◌∙◌, sym, ap, refl, ℕ, Bool, List, [], ◌∷◌}
use Rattle.std.specs.Prelude.{nat_le, unwrap_or, Option, Some, None, if◌then◌else◌}
use Rattle.key_script.specs.declared.Event.{Event}
use Rattle.key_script.specs.declared.What.{What}
use Rattle.key_script.specs.Events.{tick_of}
use Rattle.key_script.specs.Last.{or_earlier}
use Rattle.key_script.specs.Keys.{made_of, made_by, last_made}
use Rattle.keyboard.specs.Keys.{Keys, no_key}
use Rattle.law_chips.specs.Typing.{keys_after, typed_by, ScriptIsTyped}

-- an event that has come, or not
come : (is : Bool) (what : What) (key : ℕ) (keys : Keys) →
    (if is then keys_after what keys else keys) key ≡ unwrap_or (if is then made_of key what else None) (keys key)
come is what key keys = grind arith

either : (last earlier : Option Bool) (old : Bool) → unwrap_or last (unwrap_or earlier old) ≡ unwrap_or (or_earlier last earlier) old
either (Some down) earlier old = refl
either None earlier old = refl

by_then : (t : ℕ) (events : List Event) (keys : Keys) (key : ℕ) → typed_by t events keys key ≡ unwrap_or (last_made key t events) (keys key)
by_then t [] keys key = refl
by_then t (e ∷ events) keys key =
    by_then t events (if nat_le (tick_of e) t then keys_after e.what keys else keys) key
    ∙ ap (unwrap_or (last_made key t events)) (come (nat_le (tick_of e) t) e.what key keys)
    ∙ either (last_made key t events) (made_by key t e) (keys key)

pub all_typed : ScriptIsTyped
all_typed events key t = sym (by_then t events no_key key)
