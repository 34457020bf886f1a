-- No access of the host changes which breaks are pending.
use Rattle.std.specs.Prelude.{ℕ, ◌≡◌}
use Rattle.cpu_alu.specs.declared.Cycle.{Cycle}
use Rattle.cpu_alu.specs.declared.Cycle.TheVariants.{Read, Write}
use Rattle.host_bus.specs.Bus.{BusState, bus_break_pending}
use Rattle.host_bus.specs.SameBreaks.{read-leaves, write-leaves}
use Rattle.host_mach.specs.Step.{bus_after}

pub access-leaves : (b : BusState) (c : Cycle) (t : ℕ) → bus_break_pending (bus_after b c) t ≡ bus_break_pending b t
access-leaves b (Read at) t = read-leaves b at t
access-leaves b (Write at v) t = write-leaves b at v t
