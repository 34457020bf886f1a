-- No access changes which breaks are pending.
use Rattle.std.specs.Prelude.{ℕ, ◌≡◌, nat_lt}
use Rattle.std.proofs.Common.{ap}
use Rattle.host_devices.specs.Breaks.{breaks_until}
use Rattle.host_devices.specs.Map.{place_of}
use Rattle.host_bus.specs.Bus.{BusState, bus_break_pending, bus_after_read, bus_after_write}
use Rattle.host_bus.specs.SameClock.{read-kept, write-kept}

pub read-leaves : (b : BusState) (at t : ℕ) → bus_break_pending (bus_after_read b at) t ≡ bus_break_pending b t
read-leaves b at t = ap (λ k. nat_lt k.1 (breaks_until t k.2)) (read-kept (place_of at) b at)

pub write-leaves : (b : BusState) (at v t : ℕ) → bus_break_pending (bus_after_write b at v) t ≡ bus_break_pending b t
write-leaves b at v t = ap (λ k. nat_lt k.1 (breaks_until t k.2)) (write-kept (place_of at) b at v)
