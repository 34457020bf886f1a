-- The invariant of the devices' fields.
use Rattle.std.specs.Prelude.{◌≡◌, ◌<◌, ◌+◌, ◌^◌}
use Rattle.raster.specs.Reads.{StaysInSync, ReadsFrom}
use Rattle.adc7002.specs.Calm.{KeepsItsLine}
use Rattle.keyboard.specs.Latch.{screen_size}
use Rattle.host_devices.specs.CodePicture.{Behind}
use Rattle.host_devices.specs.declared.devices.Devices.TheInside.{Inside}

-- the fields as contracts see them
abbrev pub behind : Inside → Behind
behind d = record {
  devices = record { video = d.video; disc = d.disc; latch = d.latch.bits; converter = d.converter; system = d.system; user = d.user };
  owed = d.owed;
}

pub record AreInStep (d : Inside) : Type 0 where
  pub size : d.size ≡ screen_size d.latch.bits
  pub room : d.owed + d.steady < 2 ^ 64
  pub sync : StaysInSync (d.owed + d.steady) d.video
  pub line : KeepsItsLine d.steady d.converter
  pub reads : ReadsFrom d.lowest (screen_size d.latch.bits) d.video
