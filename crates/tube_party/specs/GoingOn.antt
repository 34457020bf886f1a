-- A run that continues from a moment: each party is brought back to it by its replay, and then both
-- are at one chip again.
use Rattle.std.specs.Prelude.{ℕ, ◌≡◌, ◌≤◌, nat_lt, None, List, filter}
use Rattle.beeb_bits.specs.declared.Side.{Side}
use Rattle.beeb_bits.specs.declared.Side.TheVariants.{Host, Para}
use Rattle.tube_chip.specs.Events.{after, of_side}
use Rattle.tube_trace.specs.declared.Entry.{Entry}
use Rattle.tube_trace.specs.Entries.{accesses, events_of}
use Rattle.tube_party.specs.Transitions.{Transitions}
use Rattle.tube_party.specs.Replay.{replay_of}
use Rattle.tube_party.specs.Reference.{World, ticks, close_both_leaves, reference, IsTraceBelow}

-- The reference run that continues from a world, to tick n. Ticks below both parties' next steps
-- change nothing.
abbrev pub reference_from : {S T : Type 0} → Transitions S → Transitions T → World S T → ℕ → World S T
reference_from h p w n = close_both_leaves h p n (ticks h p n 0 w)

-- both parties at the chip after these accesses from power-on; nothing more was done there
abbrev pub after_entries : {S T : Type 0} → S → T → List Entry → World S T
after_entries s t entries = record { host = s; para = t; chip = after (events_of entries); list = events_of entries }

-- Two worlds that differ only in the places of looks in their lists.
pub record IsLike {S T : Type 0} (w v : World S T) : Type 0 where
  pub host : w.host ≡ v.host
  pub para : w.para ≡ v.para
  pub chip : w.chip ≡ v.chip
  pub listed : (side : Side) → accesses (of_side side w.list) ≡ accesses (of_side side v.list)

-- A trace below a tick, and what the replays of both parties against it up to that tick leave, if
-- neither meets a difference.
pub record IsBroughtBack {S T : Type 0} (h : Transitions S) (p : Transitions T) (entries : List Entry) (at : ℕ) (s u : S) (t v : T) : Type 0 where
  pub legal : IsTraceBelow at entries
  pub host : replay_of h Host entries at s ≡ record { machine = u; place = None }
  pub para : replay_of p Para entries at t ≡ record { machine = v; place = None }

-- Two parties that were brought back, the chip after the entries, and the entries are the reference
-- run's world at that tick, but for the looks in its list. The reference run that continues from
-- there is the reference run from the start, but for these looks.
abbrev pub BroughtBackIsReference : {S T : Type 0} → Transitions S → Transitions T → Type 0
BroughtBackIsReference {S} {T} h p =
    (s u : S) (t v : T) (entries : List Entry) (at n : ℕ) →
    at ≤ n →
    IsBroughtBack h p entries at s u t v →
    IsLike (reference h p s t at) (after_entries u v entries)
    × IsLike (reference h p s t n) (reference_from h p (after_entries u v entries) n)

-- the entries below a tick
abbrev pub entries_below : ℕ → List Entry → List Entry
entries_below at entries = filter (λ e. nat_lt (e.tick).0 at) entries

-- The accesses of the reference run to a tick are those of a longer one that lie below it.
abbrev pub ShorterRunIsBeginning : {S T : Type 0} → Transitions S → Transitions T → Type 0
ShorterRunIsBeginning {S} {T} h p =
    (s : S) (t : T) (at n : ℕ) →
    at ≤ n →
    accesses (reference h p s t at).list ≡ entries_below at (accesses (reference h p s t n).list)
