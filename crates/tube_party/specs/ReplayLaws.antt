-- What a replay reports, in terms of lists of events.
use Rattle.std.specs.Prelude.{ℕ, ◌≡◌, ◌<◌, ◌≤◌, ◌↔◌, ◌&&◌, nat_lt, List, ◌++◌, length, map, filter, All, Option, None, Some, MatchOption}
use Rattle.beeb_bits.specs.declared.Side.{Side}
use Rattle.beeb_bits.specs.declared.Side.TheVariants.{Host, Para}
use Rattle.tube_chip.specs.declared.Op.{Op}
use Rattle.tube_chip.specs.declared.Answer.{Answer}
use Rattle.tube_chip.specs.declared.Answer.TheVariants.{Seen}
use Rattle.tube_chip.specs.State.{power_on, lines_of}
use Rattle.tube_chip.specs.Act.{Query, access, look}
use Rattle.tube_chip.specs.Events.{Event, is_side}
use Rattle.tube_trace.specs.declared.Entry.{Entry}
use Rattle.tube_trace.specs.Entries.{accesses}
use Rattle.tube_party.specs.declared.replaying.Doing.{Doing}
use Rattle.tube_party.specs.Transitions.{Transitions, Runs, Follows, FitsAnswer, close_leaves, execution}
use Rattle.tube_party.specs.Replay.{Numbered, own_from, doing_of, next_line, chip_before, replay_of}
use Rattle.tube_party.specs.CodeCursor.{Misses}
use Rattle.tube_party.specs.Reference.{World, reference}

-- the side's entries below n, in their order
abbrev pub own_below : Side → ℕ → List Entry → List Entry
own_below side n trace = filter (λ x. is_side side x.side && nat_lt (x.tick).0 n) trace

-- An access is answered by a byte, and a look by the lines of the chip after the entries of the
-- trace that come before it.
abbrev pub IsAnsweredBy : List Entry → ℕ → Side → Query → Answer → Type 0
IsAnsweredBy trace t side (access op) a = FitsAnswer (access op) a
IsAnsweredBy trace t side look a = a ≡ Seen (lines_of (chip_before side t power_on trace))

-- The machine follows a list up to n. The list's accesses are the side's entries of the trace below
-- n, and the trace answers its looks.
pub record FollowsTrace {S : Type 0} (m : Transitions S) (side : Side) (trace : List Entry) (n : ℕ) (s ended : S) : Type 0 where
  pub events : List Event
  pub follows : Follows m side s events n ended
  pub own : accesses events ≡ own_below side n trace
  pub answered : All (λ e. IsAnsweredBy trace e.tick e.side e.query e.answer) events

-- A replay ends without a difference exactly if the machine follows the trace, and in the state
-- that the machine then has.
abbrev pub ReplayIsFollowing : {S : Type 0} → Transitions S → Type 0
ReplayIsFollowing {S} m =
    (side : Side) (trace : List Entry) (n : ℕ) (s ended : S) →
    (replay_of m side trace n s ≡ record { machine = ended; place = None }) ↔ FollowsTrace m side trace n s ended

-- The point where a machine and its side's entries of a trace differ: the machine's state before
-- its next step, and the entries that are left.
pub record Parting (S : Type 0) : Type 0 where
  pub last : S
  pub left : List Numbered

-- What a replay reports of a difference: the line, what the machine does there, if it does
-- something, and the machine.
pub record Difference (S : Type 0) : Type 0 where
  pub line : ℕ
  pub what : Option Doing
  pub machine : S

abbrev pub difference : {S : Type 0} → ℕ → Option Doing → S → Difference S
difference line what machine = record { line = line; what = what; machine = machine }

-- What the machine does next below n and the side's entries that are left, of a trace of `lines`
-- lines, differ. Either it makes an access, and the next entry is another or none is left; or it
-- does nothing more, and an entry is left.
abbrev pub IsDifference : {S : Type 0} → Transitions S → Side → ℕ → ℕ → Parting S → Difference S → Type 0
IsDifference m side n lines at d =
    MatchOption d.what
    ((n ≤ m.due at.last) × (next_line at.left ≡ Some (d.line, None)) × (d.machine ≡ close_leaves m at.last n))
    (λ does.
    (op : Op)
    × (m.due at.last < n)
    × (m.asks at.last ≡ Some (access op))
    × (does ≡ doing_of (m.due at.last) side op)
    × Misses at.left lines (m.due at.last) op d.line
    × (d.machine ≡ at.last))

-- The machine makes the first of the side's entries below n, with its looks answered by the trace,
-- and then meets the difference `d`.
pub record DiffersAt {S : Type 0} (m : Transitions S) (side : Side) (trace : List Entry) (n : ℕ) (s : S) (d : Difference S) : Type 0 where
  pub events : List Event
  pub steps : ℕ
  pub last : S
  pub runs : Runs m side n steps s (execution events last)
  pub answered : All (λ e. IsAnsweredBy trace e.tick e.side e.query e.answer) events
  pub agreed : List Numbered
  pub left : List Numbered
  pub own : own_from side n 1 trace ≡ agreed ++ left
  pub agrees : accesses events ≡ map (λ x. x.entry) agreed
  pub differs : IsDifference m side n (length trace) (record { last = last; left = left }) d

-- A replay ends at a place exactly if that is the first difference, and with the machine before it.
abbrev pub ReplayTellsDifference : {S : Type 0} → Transitions S → Type 0
ReplayTellsDifference {S} m =
    (side : Side) (trace : List Entry) (n : ℕ) (s : S) (line : ℕ) (what : Option Doing) (stopped : S) →
    (replay_of m side trace n s ≡ record { machine = stopped; place = Some (line, what) })
    ↔ DiffersAt m side trace n s (difference line what stopped)

-- The replay of each party against the reference run's own list meets no difference, and ends as
-- the reference run does.
abbrev pub ReferenceIsReplayed : {S T : Type 0} → Transitions S → Transitions T → Type 0
ReferenceIsReplayed {S} {T} h p =
    (s : S) (t : T) (n : ℕ) →
    let w : World S T = reference h p s t n in
    (replay_of h Host (accesses w.list) n s ≡ record { machine = w.host; place = None })
    × (replay_of p Para (accesses w.list) n t ≡ record { machine = w.para; place = None })
