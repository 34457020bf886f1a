-- A key after one more event.
use Rattle.std.proofs.Common.{◌≡◌, ◌∙◌, sym, refl, ap, ℕ, Bool, false, List, [], ◌∷◌, ◌++◌, ◌+◌, ◌<◌, length, take, get_or, Option, Some, None}
use Rattle.std.proofs.lemmas.List.{take_more}
use Rattle.std.specs.Prelude.{unwrap_or}
use Rattle.key_script.specs.declared.Event.{Event}
use Rattle.key_script.specs.Last.{or_earlier}
use Rattle.key_script.specs.Keys.{made_by, last_made, is_down}

or_earlier-or_earlier : (a b c : Option Bool) → or_earlier (or_earlier a b) c ≡ or_earlier a (or_earlier b c)
or_earlier-or_earlier (Some down) b c = refl
or_earlier-or_earlier None b c = refl

or_none : (a : Option Bool) → or_earlier a None ≡ a
or_none (Some down) = refl
or_none None = refl

-- the last of the events decides first
last_behind : (key t : ℕ) (events : List Event) (e : Event) → last_made key t (events ++ e ∷ []) ≡ or_earlier (made_by key t e) (last_made key t events)
last_behind key t [] e = sym (or_none (made_by key t e))
last_behind key t (d ∷ events) e =
    ap (λ o. or_earlier o (made_by key t d)) (last_behind key t events e) ∙ or_earlier-or_earlier (made_by key t e) (last_made key t events) (made_by key t d)

made_or_up : (a b : Option Bool) → unwrap_or (or_earlier a b) false ≡ unwrap_or a (unwrap_or b false)
made_or_up (Some down) b = refl
made_or_up None b = refl

pub is_down_more : (key t : ℕ) (events : List Event) (place : ℕ) (d : Event) → place < length events →
    is_down key t (take (place + 1) events) ≡ unwrap_or (made_by key t (get_or events place d)) (is_down key t (take place events))
is_down_more key t events place d h =
    rw (take_more events place d h, last_behind key t (take place events) (get_or events place d)) (made_or_up (made_by key t (get_or events place d)) (last_made key t (take place events)))
