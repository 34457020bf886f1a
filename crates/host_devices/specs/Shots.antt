-- The shots of a script, and the frames that they take.
use Rattle.std.specs.Prelude.{ℕ, zero, suc, ◌==◌, ◌&&◌, ◌++◌, List, [], ◌∷◌, replicate, if◌then◌else◌}
use Rattle.key_script.specs.declared.Event.{Event}
use Rattle.key_script.specs.Events.{tick_of, is_shot}

-- the number of a script's events that are shots at tick k
abbrev pub shots_at : ℕ → List Event → ℕ
shots_at k [] = zero
shots_at k (e ∷ events) = if tick_of e == k && is_shot e then suc (shots_at k events) else shots_at k events

-- each shot at tick k takes `frame`, which joins the end of the list
abbrev pub shot_at : ℕ → List Event → List ℕ → List (List ℕ) → List (List ℕ)
shot_at k script frame shots = shots ++ replicate (shots_at k script) frame

-- The frames taken, the oldest first, and the number of further ones for which there is memory.
pub record Taken : Type 0 where
  pub frames : List (List ℕ)
  pub room : ℕ
