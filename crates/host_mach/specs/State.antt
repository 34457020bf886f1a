-- The host: a 6502 at its bus.
use Rattle.std.specs.Prelude.{ℕ, Bool, true, List, Option}
use Rattle.beeb_bits.specs.declared.clock.Clock.{Clock}
use Rattle.beeb_bits.specs.Clock.{host}
use Rattle.bus_plug.specs.Plug.{Plug}
use Rattle.rom_set.specs.Roms.{Roms}
use Rattle.disc_image.specs.Image.{Image}
use Rattle.key_script.specs.declared.Event.{Event}
use Rattle.cpu6502.specs.Sequences as sequences
use Rattle.host_bus.specs.Bus.{BusState, clock_of, bus_power_on}
use Rattle.tube_machine.specs.Step.{At, at_of}

-- the bus, and the count of NMIs that its processor has taken
pub record HostBusState : Type 0 where
  pub bus : BusState
  -- the rises of the NMI line that were taken
  pub nmis : ℕ
  -- there is a Tube
  pub tube : Bool

abbrev pub host_bus_of : BusState → ℕ → Bool → HostBusState
host_bus_of b n tube = record { bus = b; nmis = n; tube = tube }

abbrev pub HostState : Type 0
HostState = At HostBusState

-- the number of ticks of its cycles, by the clock of its bus
abbrev pub cycle_of : HostState → ℕ
cycle_of s = host (clock_of s.bus.bus)

-- the power-on state, at this clock, with these images, the discs of both drives, this script and
-- these plugged devices
abbrev pub power_on : Clock → Roms → Option Image → Option Image → List Event → List Plug → HostState
power_on clock roms d0 d1 script plugs = at_of sequences.power_on (host_bus_of (bus_power_on clock roms d0 d1 script plugs) 0 true) 0

-- the machine with a Tube, or with nothing at its addresses
abbrev pub with_tube : Bool → HostState → HostState
with_tube there s = record s { bus = record s.bus { tube = there } }
