-- A board whose devices lag.
use Rattle.std.specs.Prelude.{ℕ, ◌≡◌, ◌≤◌, ◌<◌, ◌^◌}
use Rattle.keyboard.specs.Latch.{screen_size}
use Rattle.raster.specs.Reads.{ReadsFrom}
use Rattle.host_bus.specs.Board.{BoardState, board_closed, board_irq, board_nmis}

-- Up to tick t, the lines to the processor are as they are now, however far the board is closed.
pub record IsCalm (t : ℕ) (b : BoardState) : Type 0 where
  pub irq : (u : ℕ) → u ≤ t → board_irq (board_closed b u) ≡ board_irq b
  pub nmis : (u : ℕ) → u ≤ t → board_nmis (board_closed b u) ≡ board_nmis b

-- The picture reads no byte of the RAM below `low`, until a register is written.
abbrev pub ReadsAbove : ℕ → BoardState → Type 0
ReadsAbove low b = ReadsFrom low (screen_size b.devices.latch) b.devices.video

-- The board is stepped up to `closed` or less: below that tick all ticks count as done. Up to
-- `calm`, which is at least `closed`, its lines do not change.
pub record IsBehind (b : BoardState) (closed calm : ℕ) : Type 0 where
  pub reached : b.closed ≤ closed
  pub near : closed ≤ calm
  pub room : closed < 2 ^ 48
  pub lines : IsCalm calm b
