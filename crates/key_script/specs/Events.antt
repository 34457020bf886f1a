-- The events of a key script, and their rules.
use Rattle.std.specs.Prelude.{ℕ, ◌≤◌, ◌<◌, Bool, true, false, List, [], ◌∷◌, All, count_by}
use Rattle.key_script.specs.declared.Event.{Event}
use Rattle.key_script.specs.declared.What.{What}
use Rattle.key_script.specs.declared.What.TheVariants.{Down, Up, Shot, Break, Level}

abbrev pub tick_of : Event → ℕ
tick_of e = (e.tick).0

abbrev pub takes_frame : What → Bool
takes_frame Shot = true
takes_frame (Down key) = false
takes_frame (Up key) = false
takes_frame Break = false
takes_frame (Level channel level) = false

abbrev pub is_shot : Event → Bool
is_shot e = takes_frame e.what

-- the number of shots among events
abbrev pub shots : List Event → ℕ
shots events = count_by is_shot events

-- the tick of the last event after one at tick t, or t
abbrev pub last_tick_from : ℕ → List Event → ℕ
last_tick_from t [] = t
last_tick_from t (e ∷ events) = last_tick_from (tick_of e) events

-- the tick of the last event, or 0
abbrev pub last_tick : List Event → ℕ
last_tick events = last_tick_from 0 events

-- ticks that are at least t, and never fall
abbrev pub NeverFallsFrom : ℕ → List Event → Type 0
NeverFallsFrom t [] = Unit {0}
NeverFallsFrom t (e ∷ events) = (t ≤ tick_of e) × NeverFallsFrom (tick_of e) events

-- a key has a number below 80 hexadecimal, and a channel one below 4
abbrev pub IsInRange : What → Type 0
IsInRange (Down key) = key < 128
IsInRange (Up key) = key < 128
IsInRange Shot = Unit {0}
IsInRange Break = Unit {0}
IsInRange (Level channel level) = channel < 4

-- the rules of one event: its tick is at most the longest run's, and its key or channel exists
pub record IsEvent (e : Event) : Type 0 where
  pub tick : tick_of e ≤ 1073741824
  pub numbers : IsInRange e.what

-- The rules of a script.
pub record IsScript (events : List Event) : Type 0 where
  pub order : NeverFallsFrom 0 events
  pub each : All IsEvent events
  pub few : shots events ≤ 256
