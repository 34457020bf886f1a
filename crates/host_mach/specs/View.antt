-- The state of a host, given those of its plugged devices.
use Rattle.bus_plug.specs.Plug.{Plug}
use Rattle.host_bus.specs.View.{bus_seen, bus_stepped}
use Rattle.tube_machine.specs.Step.{at_of}
use Rattle.host_mach.specs.declared.bus.HostBus.{HostBus}
use Rattle.host_mach.specs.declared.machine.HostMachine.{HostMachine}
use Rattle.host_mach.specs.State.{HostBusState, HostState, host_bus_of}

abbrev pub host_bus_seen : {D : Type 0} → (D → Plug) → HostBus D → HostBusState
host_bus_seen plug b = host_bus_of (bus_seen plug b.bus) b.nmis b.tube

abbrev pub host_seen : {D : Type 0} → (D → Plug) → HostMachine D → HostState
host_seen plug m = at_of m.cpu (host_bus_seen plug m.bus) m.due

-- the machine as far as its devices are stepped
abbrev pub host_stepped : {D : Type 0} → (D → Plug) → HostMachine D → HostState
host_stepped plug m = at_of m.cpu (host_bus_of (bus_stepped plug m.bus.bus) m.bus.nmis m.bus.tube) m.due
