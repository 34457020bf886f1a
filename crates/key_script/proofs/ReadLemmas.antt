-- Events pushed one at a time, and their rules.
use Rattle.std.proofs.Common.{◌≡◌, ◌≢◌, ◌∙◌, sym, refl, ap, ℕ, ◌+◌, ◌<◌, ◌≤◌, ◌==◌, ◌&&◌, Bool, true, false, List}
use Rattle.std.proofs.Common.{[], ◌∷◌, ◌++◌, length, length-append, zero-add, Some, None, Ok, Err, nat_lt, cond, if◌then◌else◌, inl, inr, arith}
use Rattle.std.proofs.lemmas.Bool.{cases_Bool, ltb-false}
use Rattle.std.proofs.lemmas.List.Elements.{All-push}
use Rattle.std.proofs.lemmas.List.Sums.{sum_by-append}
use Rattle.key_script.specs.declared.Event.{Event}
use Rattle.key_script.specs.declared.ScriptError.TheVariants.{BadLine, BadOrder, TooManyShots}
use Rattle.key_script.specs.Events.{tick_of, is_shot, shots, last_tick_from, last_tick, NeverFallsFrom, IsEvent, IsScript}
use Rattle.key_script.specs.Text.{fault, events_behind, events_of, BeginsBadly, script}

last_behind : (t : ℕ) (events : List Event) (e : Event) → last_tick_from t (events ++ e ∷ []) ≡ tick_of e
last_behind t [] e = refl
last_behind t (d ∷ events) e = last_behind (tick_of d) events e

order_behind : (t : ℕ) (events : List Event) (e : Event) → NeverFallsFrom t events → last_tick_from t events ≤ tick_of e → NeverFallsFrom t (events ++ e ∷ [])
order_behind t [] e order h = (h, tt)
order_behind t (d ∷ events) e order h = (order.0, order_behind (tick_of d) events e order.1 h)

-- The invariant of reading: the last tick and the count of shots are right, and the events obey the
-- rules.
pub record ReadSoFar (text : List ℕ) (events : List Event) (last taken : ℕ) (rest : List ℕ) : Type 0 where
  pub whole : script text ≡ events_behind events (events_of rest)
  pub last_is : last ≡ last_tick events
  pub taken_is : taken ≡ shots events
  pub rules : IsScript events
  pub size : length events + length rest ≤ length text

-- an event without a fault does not fall, and is no 257th shot
goes : (line tick last : ℕ) (many : Bool) → (if nat_lt tick last then Some (BadOrder line) else if many then Some (TooManyShots line) else None) ≡ None
    → (last ≤ tick) × (many ≡ false)
goes line tick last many e = elim (cases_Bool (nat_lt tick last)) [
  | inl is ↦ let no : Some (BadOrder line) ≡ None = rw is at e in cc
  | inr is ↦ (ltb-false tick last is, by_shots many (rw is at e))
]
  where
    by_shots : (many : Bool) → (if many then Some (TooManyShots line) else None) ≡ None → many ≡ false
    by_shots true e = cc
    by_shots false e = refl

-- one more shot, if the event is one
counted : (taken more : ℕ) (shot : Bool) → more ≡ cond shot 1 0 → taken ≤ 256 → (shot && taken == 256) ≡ false → taken + more ≤ 256
counted taken more true is few h = let other : taken ≢ 256 = λ e. cc in omega arith
counted taken more false is few h = omega arith

shots_behind : (events : List Event) (e : Event) → shots (events ++ e ∷ []) ≡ shots events + cond (is_shot e) 1 0
shots_behind events e =
    sum_by-append (λ (x : Event). cond (is_shot x) 1 0) events (e ∷ []) ∙ ap (λ n. shots events + n) (zero-add (cond (is_shot e) 1 0))

-- an event without a fault after those before it
pub read_more : (text : List ℕ) (events : List Event) (last taken more : ℕ) (rest others : List ℕ) (e : Event) →
    ReadSoFar text events last taken rest → events_of rest ≡ Some e ∷ events_of others → IsEvent e → length others < length rest →
    fault (length events + 1) last taken e ≡ None → more ≡ cond (is_shot e) 1 0 →
    ReadSoFar text (events ++ e ∷ []) (tick_of e) (taken + more) others
read_more text events last taken more rest others e so_far next event shorter clear counts =
    let last_is : last ≡ last_tick events = so_far.last_is in
    let taken_is : taken ≡ shots events = so_far.taken_is in
    let few : taken ≤ 256 = rw taken_is so_far.rules.few in
    let step : events_behind events (events_of rest) ≡ events_behind (events ++ e ∷ []) (events_of others) = rw (next, ← last_is, ← taken_is, clear) refl in
    let behind : taken + more ≡ shots (events ++ e ∷ []) = rw (shots_behind events e, counts, taken_is) refl in
    let well = goes (length events + 1) (tick_of e) last (is_shot e && taken == 256) clear in
    let order : last_tick_from 0 events ≤ tick_of e = rw (← last_is) well.0 in
    let fits : taken + more ≤ 256 = counted taken more (is_shot e) counts few well.1 in
    record {
      whole = so_far.whole ∙ step;
      last_is = sym (last_behind 0 events e);
      taken_is = behind;
      rules = record {
        order = order_behind 0 events e so_far.rules.order order;
        each = All-push IsEvent events e so_far.rules.each event;
        few = rw (← behind) fits;
      };
      size = let more_is : length (events ++ e ∷ []) ≡ length events + 1 = length-append events (e ∷ []) in omega (arith, more_is, so_far.size);
    }

-- no line is left
pub read_all : (text : List ℕ) (events : List Event) (last taken : ℕ) (rest : List ℕ) → ReadSoFar text events last taken rest → length rest ≡ 0 → script text ≡ Ok events
read_all text events last taken [] so_far none = so_far.whole
read_all text events last taken (b ∷ rest) so_far none = absurd (omega arith)

pub read_bad_line : (text : List ℕ) (events : List Event) (last taken : ℕ) (rest : List ℕ) → ReadSoFar text events last taken rest → BeginsBadly rest →
    script text ≡ Err (BadLine (length events + 1))
read_bad_line text events last taken rest so_far bad = so_far.whole ∙ rw bad.1 refl
