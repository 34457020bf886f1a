-- A speculation of the parasite ahead of the host.
use Rattle.std.specs.Prelude.{ℕ, ◌≡◌, ◌+◌, ◌≤◌, List, length, take}
use Rattle.beeb_bits.specs.declared.Side.TheVariants.{Para}
use Rattle.tube_chip.specs.Events.{Event}
use Rattle.tube_trace.specs.Entries.{accesses}
use Rattle.tube_party.specs.declared.log.Log.{Log}
use Rattle.tube_party.specs.declared.log.LogMark.{LogMark}
use Rattle.tube_party.specs.declared.party.Ask.{Ask}
use Rattle.tube_party.specs.declared.party.Ask.TheVariants.{Nothing, Access, Look}
use Rattle.tube_party.specs.Transitions.{Transitions, Runs, IsAsk, execution}
use Rattle.tube_party.specs.Turn.{note_all_leaves}
use Rattle.tube_side.specs.CodeSpeculation.{Speculation}
use Rattle.session.specs.CodeSight.{readings_seen, observed_events, IsSeen}
use Rattle.session.specs.CodeSideAndLog.{SideAndLog, side_and_log}
use Rattle.session.specs.declared.half.Half.{Half}
use Rattle.session.specs.declared.speculation.Checkpoint.{Checkpoint}

-- The party's state at the start of a speculation, and the checkpoint taken there.
pub record SpecStart (S : Type 0) : Type 0 where
  pub state : S
  pub at : Checkpoint

abbrev pub spec_start : {S : Type 0} → S → Checkpoint → SpecStart S
spec_start s at = record { state = s; at = at }

-- what the party observes from the start on, below tick t
abbrev pub observed_past : {S : Type 0} → Transitions S → ℕ → SpecStart S → ℕ → List Event
observed_past m n from t = observed_events m Para (readings_seen from.at.mark.readings) t n from.state

abbrev pub speculation_of : {S : Type 0} → Transitions S → ℕ → SpecStart S → Speculation
speculation_of m n from = record { tick = m.due from.state; readings = from.at.mark.readings; until = λ t. observed_past m n from t }

-- The tick of the next ask, or n if there is none.
abbrev pub IsReached : ℕ → Ask → ℕ → Type 0
IsReached n Nothing at = at ≡ n
IsReached n (Access t op) at = at ≡ t.0
IsReached n (Look t) at = at ≡ t.0

-- The accesses among these events were noted after those stored at the mark, and counted.
pub record IsNoted (mark : LogMark) (events : List Event) (log : Log) : Type 0 where
  pub kept : mark.len ≤ length log.list.items
  pub list_is : log.list.items ≡ note_all_leaves log.keep (take mark.len log.list.items) (accesses events)
  pub count_is : log.count ≡ mark.count + length (accesses events)

-- The party has run from the start: each query saw what the mark shows, accesses were noted, and
-- `ask` comes next.
pub record IsInSpeculation {S : Type 0} (m : Transitions S) (n : ℕ) (from : SpecStart S) (ask : Ask) (y : SideAndLog S) : Type 0 where
  pub events : List Event
  pub steps : ℕ
  pub last : S
  pub runs : Runs m Para n steps from.state (execution events last)
  pub seen : IsSeen (readings_seen from.at.mark.readings) events
  pub asked : IsAsk m n last ask y.at.state
  pub noted : IsNoted from.at.log events y.log
  pub few : from.at.log.count ≤ m.due from.state

-- The party observed from the start exactly what lies below `t`, and noted it; its next step is at
-- `t` or later, and `ask` is the next ask.
pub record IsSettled {S : Type 0} (m : Transitions S) (n : ℕ) (from : SpecStart S) (t : ℕ) (ask : Ask) (y : SideAndLog S) : Type 0 where
  pub steps : ℕ
  pub last : S
  pub runs : Runs m Para n steps from.state (execution (observed_past m n from t) last)
  pub asked : IsAsk m n last ask y.at.state
  pub late : t ≤ m.due last
  pub noted : IsNoted from.at.log (observed_past m n from t) y.log

-- the second ask is no earlier than the first
abbrev pub IsNoEarlier : ℕ → Ask → Ask → Type 0
IsNoEarlier n first second = (t u : ℕ) → IsReached n first t → IsReached n second u → t ≤ u

-- A speculation in progress: its start, and the side's present state.
pub record SpecRun (S : Type 0) : Type 0 where
  pub from : SpecStart S
  pub here : SideAndLog S

-- that of a half: `state` gives its machine's state, and `before` the machine after a rollback
abbrev pub spec_run : {M P S : Type 0} → (M → S) → (P → M → M) → P → Half M → Checkpoint → SpecRun S
spec_run state before past half at = record { from = spec_start (state (before past half.machine)) at; here = side_and_log state half }

abbrev pub IsInSpecRun : {S : Type 0} → Transitions S → ℕ → Ask → SpecRun S → Type 0
IsInSpecRun m n ask x = IsInSpeculation m n x.from ask x.here

-- what was stored before the mark is unchanged
pub record IsStillThere (mark : LogMark) (x y : Log) : Type 0 where
  pub kept : take mark.len y.list.items ≡ take mark.len x.list.items
  pub keep_is : y.keep ≡ x.keep

-- The side went on from `first`, or stayed. It now asks `second`, and would be rolled back to the
-- state of its start, as before.
pub record HasGoneFurther {S : Type 0} (m : Transitions S) (n : ℕ) (first : Ask) (x : SpecRun S) (second : Ask) (y : SpecRun S) : Type 0 where
  pub speculation : IsInSpecRun m n second y
  pub further : IsNoEarlier n first second
  pub from_is : y.from.state ≡ x.from.state
  pub log : IsStillThere x.from.at.log x.here.log y.here.log
