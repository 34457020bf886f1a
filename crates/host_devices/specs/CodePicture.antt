-- The picture lags the other devices: the devices' fields as contracts see them.
use Rattle.std.specs.Prelude.{ℕ, List}
use Rattle.saa5050.specs.Shapes.{Font}
use Rattle.raster.specs.Clock as beam
use Rattle.keyboard.specs.Latch.{screen_size}
use Rattle.host_devices.specs.Devices.{Devices}

-- The devices, and the microseconds that the picture owes: the other devices have done them.
pub record Behind : Type 0 where
  pub devices : Devices
  pub owed : ℕ

-- the devices after the picture has drawn all that it owes, from `ram` and with `font`
abbrev pub drawn : List ℕ → Font → Behind → Devices
drawn ram font b = record b.devices {
  video = beam.microseconds ram (screen_size b.devices.latch) font b.owed b.devices.video;
}
