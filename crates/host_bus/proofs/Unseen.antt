-- The bytes that the picture reads during ticks, and stores that it does not see.
use Rattle.std.proofs.Common.{◌≡◌, ◌∙◌, ap, refl, ℕ, zero, suc, ◌+◌, ◌-◌, ◌<◌, ◌%◌, ◌==◌, max, Bool, true, false, List, slice_set, if◌then◌else◌}
use Rattle.beeb_bits.specs.Clock.{micro}
use Rattle.raster.specs.State as picture
use Rattle.raster.specs.Clock.{vsync_of}
use Rattle.raster.specs.Reads.{ReadsFrom, ReadsGoOn, StoresBelowAreUnseen}
use Rattle.keyboard.specs.Keys.{Keys}
use Rattle.keyboard.specs.Latch.{screen_size}
use Rattle.host_devices.specs.Devices.{Devices, keys_at, levels_at, microsecond}
use Rattle.host_bus.specs.Board.{BoardState, Around, Moving, around, moving_part, closed_with, tick, ticks, board_closed}
use Rattle.host_bus.specs.Lag.{ReadsAbove}
use Rattle.host_bus.specs.StoredLines.{stepped}

module _ (on : ReadsGoOn) (law : StoresBelowAreUnseen) (low at v : ℕ) (below : at < low) where
  -- the bytes that the picture of the devices reads
  abbrev Reads : Devices → Type 0
  Reads d = ReadsFrom low (screen_size d.latch) d.video

  -- the surroundings of a tick with a byte written
  abbrev stored : Around → Around
  stored a = record a { ram = slice_set a.ram at v }

  -- A byte below those that it reads may be written before or after a microsecond, a tick or many
  -- ticks. The bytes that it reads stay above it.
  unseen-by : (due : Bool) (a : Around) (keys : Keys) (levels : List ℕ) (d : Devices) → Reads d →
      ((if due then microsecond (slice_set a.ram at v) a.font keys levels d else d) ≡ (if due then microsecond a.ram a.font keys levels d else d))
      × Reads (if due then microsecond a.ram a.font keys levels d else d)
  unfolding microsecond
  unseen-by true a keys levels d reads = (
    ap (λ (s : picture.State). stepped s (vsync_of s) keys levels d) (law low (screen_size d.latch) 1 at v a.ram a.font d.video reads below),
    on low (screen_size d.latch) 1 a.ram a.font d.video reads,
  )
  unseen-by false a keys levels d reads = (refl, reads)

  unseen-ticks : (a : Around) (n k : ℕ) (m : Moving) → Reads m.devices → ticks (stored a) n k m ≡ ticks a n k m
  unseen-ticks a zero k m reads = refl
  unseen-ticks a (suc n) k m reads =
      let (same, still) = unseen-by (k % micro a.clock == 0) a (keys_at k a.script) (levels_at k a.script) m.devices reads in
      ap (λ (d : Devices). ticks (stored a) n (k + 1) (record (tick a k m) { devices = d })) same ∙ unseen-ticks a n (k + 1) (tick a k m) still

  -- a byte may be written to a board before the ticks that it owes are done
  pub stored-behind : (b : BoardState) (t : ℕ) → ReadsAbove low b →
      board_closed (record b { ram = slice_set b.ram at v }) t ≡ record (board_closed b t) { ram = slice_set b.ram at v }
  stored-behind b t reads =
      ap (λ (x : Moving). closed_with (record b { ram = slice_set b.ram at v }) (max t b.closed) x) (unseen-ticks (around b) (t - b.closed) b.closed (moving_part b) reads)
