-- The playback as the board's code stores it: tables of keys and levels with a place in the script,
-- memory for further shots, and the next ticks.
use Rattle.std.specs.Prelude.{ℕ, ◌≡◌, ◌≤◌, ◌<◌, ◌+◌, ◌%◌, min, true, false, List, Option, length, drop, slice_set, slice_index_or, unwrap_or}
use Rattle.keyboard.specs.Keys.{Keys, keys_of, with_key}
use Rattle.key_script.specs.declared.Event.{Event}
use Rattle.key_script.specs.declared.What.{What}
use Rattle.key_script.specs.declared.What.TheVariants.{Down, Up, Shot, Break, Level}
use Rattle.key_script.specs.Events.{NeverFallsFrom, shots}
use Rattle.key_script.specs.Last.{last_said}
use Rattle.key_script.specs.Keys.{made_of}
use Rattle.key_script.specs.Levels.{level_given}
use Rattle.host_devices.specs.Shots.{shots_at}
use Rattle.host_devices.specs.declared.playback.Playback.{Playback}

-- the keys after an event
abbrev pub keys_after : What → Keys → Keys
keys_after (Down key) keys = with_key key true keys
keys_after (Up key) keys = with_key key false keys
keys_after Shot keys = keys
keys_after Break keys = keys
keys_after (Level channel level) keys = keys

-- the levels after an event
abbrev pub level_turned : What → List ℕ → List ℕ
level_turned (Level channel level) levels = slice_set levels channel level
level_turned (Down key) levels = levels
level_turned (Up key) levels = levels
level_turned Shot levels = levels
level_turned Break levels = levels

abbrev pub level_of : List ℕ → ℕ → ℕ
level_of levels channel = slice_index_or levels channel 0

-- From tick t - 1 on, the state of a key or a channel follows from the rest of the script. If the
-- rest has no event for it, the table has its state.
abbrev pub IsLeft : {A : Type 0} → (ℕ → What → Option A) → A → List Event → List Event → (ℕ → A) → ℕ → Type 0
IsLeft kind first script left table t =
    (k i : ℕ) → t ≤ k + 1 → unwrap_or (last_said (kind i) k script) first ≡ unwrap_or (last_said (kind i) k left) (table i)

-- From tick t on, the shots at a tick are those of the rest of the script.
abbrev pub HasLeft : List Event → List Event → ℕ → Type 0
HasLeft script left t = (k : ℕ) → t ≤ k → shots_at k script ≡ shots_at k left

-- All events below tick t are done, and none of the others has a tick below `event`.
pub record IsPlayed (p : Playback) (t : ℕ) : Type 0 where
  pub within : p.place ≤ length p.script
  pub room : shots (drop p.place p.script) ≤ p.shots.room
  pub has_left : HasLeft p.script (drop p.place p.script) t
  pub is_left : IsLeft made_of false p.script (drop p.place p.script) (keys_of p.keys) t
  pub at_level : IsLeft level_given 0 p.script (drop p.place p.script) (level_of p.levels) t
  pub four : length p.levels ≡ 4
  pub later : NeverFallsFrom p.event (drop p.place p.script)
  pub early : t ≤ p.event

-- `next` is the tick of the next microsecond, of u ticks each, or of the next event, if that is
-- earlier.
pub record IsOnTime (u closed event next : ℕ) : Type 0 where
  -- the tick of the next microsecond
  pub step : ℕ
  pub begins : step % u ≡ 0
  pub first : closed ≤ step
  pub near : step < closed + u
  pub least : next ≡ min step event
