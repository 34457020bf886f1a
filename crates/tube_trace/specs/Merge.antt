-- Two sides' entries in one list.
use Rattle.std.specs.Prelude.{ℕ, ◌≡◌, nat_lt, take, List, [], ◌∷◌, All, Option, Some, None, if◌then◌else◌}
use Rattle.beeb_bits.specs.declared.Side.{Side}
use Rattle.tube_chip.specs.Events.{Rises, merge}
use Rattle.tube_trace.specs.declared.Entry.{Entry}
use Rattle.tube_trace.specs.Entries.{accesses, events_of}

-- Entries of one side, each before the next.
pub record IsOfSide (side : Side) (entries : List Entry) : Type 0 where
  pub rises : Rises (events_of entries)
  pub each : All (λ e. e.side ≡ side) entries

-- the entry of both lists that comes first, and what is left of each
abbrev pub next_of : List Entry → List Entry → Option (Entry × List Entry × List Entry)
next_of [] [] = None
next_of (a ∷ host) [] = Some (a, host, [])
next_of [] (b ∷ para) = Some (b, [], para)
next_of (a ∷ host) (b ∷ para) = if nat_lt (b.tick).0 (a.tick).0 then Some (b, a ∷ host, para) else Some (a, host, b ∷ para)

-- the first `keep` entries of both lists in one, by tick, and at equal ticks the host's first
abbrev pub of_both : ℕ → List Entry → List Entry → List Entry
of_both keep host para = accesses (take keep (merge (events_of host) (events_of para)))
