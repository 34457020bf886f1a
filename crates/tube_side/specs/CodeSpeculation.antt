-- A speculation of the parasite: what it observes ahead of the host.
use Rattle.std.specs.Prelude.{ℕ, ◌≡◌, ◌≤◌, List, []}
use Rattle.beeb_bits.specs.declared.Side.TheVariants.{Para}
use Rattle.tube_chip.specs.State.{State}
use Rattle.tube_chip.specs.Events.{Event}
use Rattle.tube_cell.specs.declared.local.Readings.{Readings}
use Rattle.tube_cell.specs.Views.{below, AllBelow, readings_of}
use Rattle.tube_cell.specs.Steps.{Watches}

-- The tick of its start, what the chip shows there, and the observations below any tick.
pub record Speculation : Type 0 where
  pub tick : ℕ
  pub readings : Readings
  pub until : ℕ → List Event

-- The observations below a tick lie below it, and are the first of those below a later tick. Below
-- tick 0 there is none. All lie at the start or after it, and any chip with these readings answers
-- them.
pub record IsSpeculation (w : Speculation) : Type 0 where
  pub low : (t : ℕ) → AllBelow t (w.until t)
  pub part : (t limit : ℕ) → t ≤ limit → below t (w.until limit) ≡ w.until t
  pub none : w.until 0 ≡ []
  pub watches : (c : State) (t : ℕ) → w.readings ≡ readings_of c → Watches Para w.tick c (w.until t) t
