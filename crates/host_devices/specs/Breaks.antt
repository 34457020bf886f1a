-- The breaks of a script: presses of the BREAK key. (Acorn, BBC Microcomputer Advanced User Guide.)
use Rattle.std.specs.Prelude.{ℕ, ◌&&◌, nat_le, Bool, true, false, List, [], ◌∷◌, Option, Some, None, count_by, filter, drop}
use Rattle.key_script.specs.declared.Event.{Event}
use Rattle.key_script.specs.declared.What.{What}
use Rattle.key_script.specs.declared.What.TheVariants.{Down, Up, Shot, Break, Level}
use Rattle.key_script.specs.Events.{tick_of}

abbrev pub presses_break : What → Bool
presses_break Break = true
presses_break (Down key) = false
presses_break (Up key) = false
presses_break Shot = false
presses_break (Level channel level) = false

abbrev pub is_break : Event → Bool
is_break e = presses_break e.what

-- a break with a tick of at most t
abbrev pub is_break_by : ℕ → Event → Bool
is_break_by t e = is_break e && nat_le (tick_of e) t

-- the number of breaks with a tick of at most t
abbrev pub breaks_until : ℕ → List Event → ℕ
breaks_until t script = count_by (is_break_by t) script

-- the tick of the first of some events
abbrev pub first_tick : List Event → Option ℕ
first_tick [] = None
first_tick (e ∷ events) = Some (tick_of e)

-- the tick of the break with the number n, counted from 0, if there is one
abbrev pub break_number : ℕ → List Event → Option ℕ
break_number n script = first_tick (drop n (filter is_break script))
