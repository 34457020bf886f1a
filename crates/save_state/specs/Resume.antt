-- A run that continues from the accesses of a session.
use Rattle.std.specs.Prelude.{ℕ, ◌≡◌, ◌≤◌, ◌-◌, nat_le, List, length, map, take, slice_index_or, Option, None, Some, if◌then◌else◌}
use Rattle.beeb_bits.specs.declared.Side.TheVariants.{Host, Para}
use Rattle.tube_trace.specs.declared.Entry.{Entry}
use Rattle.tube_trace.specs.Entries.{accesses}
use Rattle.tube_party.specs.declared.replaying.Doing.{Doing}
use Rattle.tube_party.specs.Transitions.{Transitions}
use Rattle.tube_party.specs.Replay.{replay_of}
use Rattle.tube_party.specs.Reference.{reference, IsTraceBelow}
use Rattle.tube_party.specs.GoingOn.{entries_below}

-- the host's place, or the parasite's if the host has none
abbrev pub host_first : Option (ℕ × Option Doing) → Option (ℕ × Option Doing) → Option (ℕ × Option Doing)
host_first None para = para
host_first (Some place) para = Some place

-- The first difference between two parties and these accesses, up to a tick: that of the host's
-- replay, or of the parasite's if the host's meets none.
abbrev pub first_difference : {S T : Type 0} → Transitions S → Transitions T → List Entry → ℕ → S → T → Option (ℕ × Option Doing)
first_difference h p entries at s t = host_first (replay_of h Host entries at s).place (replay_of p Para entries at t).place

-- The accesses that a session has of two parties, up to a moment: they are a trace, and up to each
-- tick that is not past the moment the parties do not differ from the accesses below the tick.
pub record IsResumed {S T : Type 0} (h : Transitions S) (p : Transitions T) (s : S) (t : T) (entries : List Entry) (at : ℕ) : Type 0 where
  pub legal : IsTraceBelow at entries
  pub legal_before : (c : ℕ) → c ≤ at → IsTraceBelow c (entries_below c entries)
  pub agree : (c : ℕ) → c ≤ at → first_difference h p (entries_below c entries) c s t ≡ None

-- the tick of the last entry, or 0 if there is none
abbrev pub last_tick : List Entry → ℕ
last_tick entries = slice_index_or (map (λ e. (e.tick).0) entries) (length entries - 1) 0

-- The moment of a run of n ticks that stores the first `keep` of its accesses: the end of the run
-- if these are all, and otherwise the tick of the last of them.
abbrev pub moment_of : ℕ → ℕ → List Entry → ℕ
moment_of n keep all = if nat_le (length all) keep then n else last_tick (take keep all)

-- The parties repeat the stored accesses of a run that lie below its moment.
abbrev pub SavedRunIsResumed : {S T : Type 0} → Transitions S → Transitions T → Type 0
SavedRunIsResumed {S} {T} h p =
    (s : S) (t : T) (n keep : ℕ) →
    let all : List Entry = accesses (reference h p s t n).list in
    let at : ℕ = moment_of n keep all in
    (at ≤ n) × IsResumed h p s t (entries_below at (take keep all)) at
