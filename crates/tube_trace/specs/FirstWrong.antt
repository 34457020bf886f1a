-- The first entry whose answer the chip would not give.
use Rattle.std.specs.Prelude.{ℕ, ◌+◌, ◌≡◌, ◌≢◌, ◌==◌, List, [], ◌∷◌, take, Option, Some, None, IsSomeAnd, slice_get, if◌then◌else◌}
use Rattle.tube_chip.specs.State.{State, power_on}
use Rattle.tube_chip.specs.Act.{answer_of, chip_after}
use Rattle.tube_chip.specs.Events.{IsAnsweredFrom, after}
use Rattle.tube_trace.specs.declared.Entry.{Entry}
use Rattle.tube_trace.specs.Entries.{events_of}

-- its index, counted from i, and the byte that the chip gives; the entries are done from chip c on
abbrev pub wrong_from : State → ℕ → List Entry → Option (ℕ × ℕ)
wrong_from c i [] = None
wrong_from c i (e ∷ entries) =
    if answer_of c e.side e.op == e.answer then wrong_from (chip_after c e.side e.op) (i + 1) entries else Some (i, answer_of c e.side e.op)

unfoldable pub wrong : List Entry → Option (ℕ × ℕ)
wrong entries = wrong_from power_on 0 entries

-- In words: the answers before index `place` are the chip's, and the one at it is not: the chip
-- gives `byte`.
pub record IsFirstWrong (entries : List Entry) (place byte : ℕ) : Type 0 where
  pub before : IsAnsweredFrom power_on (events_of (take place entries))
  pub here : IsSomeAnd (slice_get entries place) (λ e. (answer_of (after (events_of (take place entries))) e.side e.op ≡ byte) × (e.answer ≢ byte))
