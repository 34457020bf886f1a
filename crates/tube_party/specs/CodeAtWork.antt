-- A side at work, and one turn of it at the chip.
use Rattle.std.specs.Prelude.{ℕ, ◌≡◌, ◌+◌, Some, List, [], ◌∷◌, length}
use Rattle.beeb_bits.specs.declared.Side.{Side}
use Rattle.tube_chip.specs.State.{State}
use Rattle.tube_chip.specs.Act.{Query, act}
use Rattle.tube_trace.specs.declared.Entry.{Entry}
use Rattle.tube_chip.specs.Events.{of_side}
use Rattle.tube_trace.specs.Entries.{accesses, entry_of, event_of}
use Rattle.tube_party.specs.declared.log.Log.{Log}
use Rattle.tube_party.specs.Transitions.{Transitions}
use Rattle.tube_party.specs.Turn.{note_all_leaves}

-- A side at work: the state of its party, the chip, the stored accesses, and the number of all.
pub record AtWork (S : Type 0) : Type 0 where
  pub state : S
  pub chip : State
  pub list : List Entry
  pub count : ℕ

-- that of a party in state `s`, with this log
abbrev pub at_work : {S : Type 0} → S → State → Log → AtWork S
at_work s c log = record { state = s; chip = c; list = log.list.items; count = log.count }

-- the entry, if it is one of the side's
abbrev pub own_of : Side → Entry → List Entry
own_of side entry = accesses (of_side side (event_of entry ∷ []))

-- The step that asks was done at the chip.
pub record Acts {S : Type 0} (m : Transitions S) (side : Side) (keep : ℕ) (old new : AtWork S) : Type 0 where
  pub query : Query
  pub asks : m.asks old.state ≡ Some query
  pub state_is : new.state ≡ m.next old.state (Some (act old.chip side query).1)
  pub chip_is : new.chip ≡ (act old.chip side query).0
  pub list_is : new.list ≡ note_all_leaves keep old.list (entry_of (m.due old.state) side query (act old.chip side query).1)
  pub count_is : new.count ≡ old.count + length (entry_of (m.due old.state) side query (act old.chip side query).1)
