-- The continuation of two parties after the accesses of a session.
use Rattle.std.specs.Prelude.{ℕ, ◌≡◌, ◌<◌, ◌+◌, min, All, List, Option, None, Some}
use Rattle.tube_chip.specs.Events.{Rises}
use Rattle.tube_trace.specs.declared.Entry.{Entry}
use Rattle.tube_trace.specs.Entries.{IsEntry, events_of}
use Rattle.tube_trace.specs.FirstWrong.{wrong}
use Rattle.tube_party.specs.declared.Doing.{Doing}
use Rattle.tube_party.specs.Transitions.{Transitions}
use Rattle.tube_party.specs.OneThread.{IsPlayed, played_of}
use Rattle.tube_party.specs.Reference.{reference}
use Rattle.tube_party.specs.GoingOn.{entries_below}
use Rattle.save_state.specs.Resume.{first_difference}
use Rattle.cmd_session.specs.declared.going.Back.{Back}
use Rattle.cmd_session.specs.declared.going.Back.TheVariants.{On, Wrong, Differs}

-- valid entries of their sides, each before the next and all below a moment
pub record AreAccesses (moment : ℕ) (entries : List Entry) : Type 0 where
  pub each : All IsEntry entries
  pub rises : Rises (events_of entries)
  pub low : All (λ e. (e.tick).0 < moment) entries

-- the first difference between the parties and the accesses below the moment and the end of the run
abbrev pub place_of : {S T : Type 0} → Transitions S → Transitions T → List Entry → ℕ → ℕ → S → T → Option (ℕ × Option Doing)
place_of h p entries moment n s t = first_difference h p (entries_below (min moment n) entries) (min moment n) s t

-- The parties continued as the reference run does, or an answer is wrong, or a party differs.
abbrev pub Goes : {H P S T : Type 0} → (H → S) → (P → T) → Transitions S → Transitions T → S → T → List Entry → ℕ → ℕ → ℕ → Back H P → Type 0
Goes host para h p s t entries moment n keep (On done) =
    (wrong entries ≡ None) × (place_of h p entries moment n s t ≡ None) × IsPlayed (reference h p s t n) keep (played_of host para done)
Goes host para h p s t entries moment n keep (Wrong line byte) = (place : ℕ) × (wrong entries ≡ Some (place, byte)) × (line ≡ place + 1)
Goes host para h p s t entries moment n keep (Differs line doing) =
    (wrong entries ≡ None) × (place_of h p entries moment n s t ≡ Some (line, doing))
