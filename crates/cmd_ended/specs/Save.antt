-- The session of a run that is saved.
use Rattle.std.specs.Prelude.{ℕ, Bool, List, if◌then◌else◌}
use Rattle.tube_trace.specs.declared.Entry.{Entry}
use Rattle.tube_party.specs.GoingOn.{entries_below}
use Rattle.save_state.specs.Saved.{Session}
use Rattle.save_state.specs.Resume.{last_tick}

-- The moment of the session: the end of the run if all its accesses are kept; otherwise the tick of
-- the last one kept.
abbrev pub saved_tick : ℕ → Bool → List Entry → ℕ
saved_tick n all kept = if all then n else last_tick kept

-- The session of a run of n ticks with the beginning begun, a session of no ticks: its moment, and
-- the kept accesses below it.
unfoldable pub saved_of : Session → ℕ → Bool → List Entry → Session
saved_of begun n all kept = record begun { ticks = saved_tick n all kept; entries = entries_below (saved_tick n all kept) kept }
