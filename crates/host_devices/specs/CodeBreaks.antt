-- The breaks as the board's code stores them: a place in the script, and the tick of the first
-- break from there on.
use Rattle.std.specs.Prelude.{ℕ, ◌≡◌, ◌≤◌, List, length, drop, take, count_by, filter, unwrap_or}
use Rattle.key_script.specs.declared.Event.{Event}
use Rattle.key_script.specs.Events.{IsScript}
use Rattle.host_devices.specs.Breaks.{is_break, first_tick}
use Rattle.host_devices.specs.declared.breaks.Breaks.{Breaks}

-- the number of breaks before a place
abbrev pub breaks_before : ℕ → List Event → ℕ
breaks_before place script = count_by is_break (take place script)

-- the tick of the first break of events, or 2^64 - 1 if there is none
abbrev pub break_tick : List Event → ℕ
break_tick events = unwrap_or (first_tick (filter is_break events)) 18446744073709551615

-- `next` is the tick of the first break from `place` on.
pub record IsNextBreak (b : Breaks) (script : List Event) : Type 0 where
  pub rules : IsScript script
  pub within : b.place ≤ length script
  pub next : b.next ≡ break_tick (drop b.place script)
