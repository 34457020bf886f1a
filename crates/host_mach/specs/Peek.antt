-- The byte stored at an address of the host's memory.
use Rattle.std.specs.Prelude.{ℕ, ◌≡◌, Option}
use Rattle.host_bus.specs.Peek.{bus_peek, peek-leaves as bus-leaves}
use Rattle.host_mach.specs.State.{HostState}
use Rattle.host_mach.specs.Step.{host_closed}

abbrev pub host_peek : HostState → ℕ → Option ℕ
host_peek s at = bus_peek s.bus.bus at

-- Closing the machine does not change it.
pub peek-leaves : (s : HostState) (t at : ℕ) → host_peek (host_closed s t) at ≡ host_peek s at
peek-leaves s t at = bus-leaves s.bus.bus t at
