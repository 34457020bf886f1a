-- A party that ran as long as it only observed, below a tick.
use Rattle.std.specs.Prelude.{ℕ, ◌≡◌, ◌≤◌, ◌⊎◌, None, List}
use Rattle.beeb_bits.specs.declared.Side.{Side}
use Rattle.tube_chip.specs.Events.{Event}
use Rattle.tube_trace.specs.Entries.{accesses}
use Rattle.tube_cell.specs.declared.local.Readings.{Readings}
use Rattle.tube_cell.specs.Views.{AllBelow}
use Rattle.tube_party.specs.declared.log.Log.{Log}
use Rattle.tube_party.specs.declared.party.Ask.{Ask}
use Rattle.tube_party.specs.declared.party.Ask.TheVariants.{Nothing, Access, Look}
use Rattle.tube_party.specs.Transitions.{Transitions, Runs, IsAsk, execution}
use Rattle.tube_party.specs.Logs.{HasNoted}
use Rattle.session.specs.CodeSight.{byte_seen, readings_seen, IsSeen}

-- A party of a side went from state `old` to `new`, where `ask` comes next. All that it asked was
-- below tick `t` and answered by readings `r`, and accesses were noted.
pub record HasObserved {S : Type 0} (m : Transitions S) (side : Side) (n : ℕ) (r : Readings) (t : ℕ) (old : S) (before : Log) (ask : Ask) (new : S) (after : Log) : Type 0 where
  pub events : List Event
  pub steps : ℕ
  pub last : S
  pub runs : Runs m side n steps old (execution events last)
  pub seen : IsSeen (readings_seen r) events
  pub low : AllBelow t events
  pub asked : IsAsk m n last ask new
  pub noted : HasNoted (accesses events) before after

-- `ask` is no query below tick t that the readings answer
abbrev pub IsOver : Readings → ℕ → Ask → Type 0
IsOver r t Nothing = Unit {0}
IsOver r t (Access u op) = (t ≤ u.0) ⊎ (byte_seen r.status op ≡ None)
IsOver r t (Look u) = t ≤ u.0
