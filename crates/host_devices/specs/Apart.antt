-- The wiring of the devices, over runs of microseconds. Only two lines lead from one device to
-- another: vertical sync from the picture, and the converter's line. Both lead to the system's
-- 6522. While neither changes, each device advances by itself. (Acorn, BBC Microcomputer Advanced
-- User Guide, The system VIA.)
use Rattle.std.specs.Prelude.{ℕ, ◌≡◌, ◌≤◌, List}
use Rattle.saa5050.specs.Shapes.{Font}
use Rattle.raster.specs.Clock as beam
use Rattle.raster.specs.Reads.{StaysInSync}
use Rattle.wd1770.specs.Step as turn
use Rattle.adc7002.specs.Registers as converter
use Rattle.adc7002.specs.Step as conversion
use Rattle.adc7002.specs.Calm.{KeepsItsLine}
use Rattle.via6522.specs.Step.{steps}
use Rattle.keyboard.specs.Keys.{Keys}
use Rattle.keyboard.specs.Latch.{screen_size}
use Rattle.host_devices.specs.Devices.{Devices, system_pins, user_pins, microseconds, devices_ask}

-- n microseconds of each device by itself; the pins of both 6522s do not change
abbrev pub each_by_itself : List ℕ → Font → Keys → List ℕ → ℕ → Devices → Devices
each_by_itself ram font keys levels n d = record d {
  video = beam.microseconds ram (screen_size d.latch) font n d.video;
  disc = turn.steps n d.disc;
  converter = conversion.steps levels n d.converter;
  system = steps (system_pins (beam.vsync_of d.video) (converter.cb1 d.converter) keys d) n d.system;
  user = steps user_pins n d.user;
}

-- While vertical sync and the converter's line do not change, n microseconds of the devices are
-- those of each by itself.
abbrev pub AreApart : Type 0
AreApart =
    (ram : List ℕ) (font : Font) (keys : Keys) (levels : List ℕ) (n : ℕ) (d : Devices) →
    StaysInSync n d.video → KeepsItsLine n d.converter →
    microseconds ram font keys levels n d ≡ each_by_itself ram font keys levels n d

-- With the keys `keys`, the lines to the processor are as they are now after each of the next n
-- microseconds: the interrupt requests of the 6522s, and the count of rises of the disc
-- controller's line.
pub record AreCalm (keys : Keys) (n : ℕ) (d : Devices) : Type 0 where
  pub irq :
      (ram : List ℕ) (font : Font) (levels : List ℕ) (k : ℕ) → k ≤ n →
      devices_ask (microseconds ram font keys levels k d) ≡ devices_ask d
  pub nmis :
      (ram : List ℕ) (font : Font) (levels : List ℕ) (k : ℕ) → k ≤ n →
      (microseconds ram font keys levels k d).disc.nmis ≡ d.disc.nmis
