-- No access changes the length of ticks.
use Rattle.std.specs.Prelude.{ℕ, ◌≡◌, List, refl}
use Rattle.std.proofs.Common.{ap}
use Rattle.beeb_bits.specs.declared.clock.Clock.{Clock}
use Rattle.key_script.specs.declared.Event.{Event}
use Rattle.host_devices.specs.declared.map.Device.TheVariants.{RomLatch}
use Rattle.host_devices.specs.Map.{Place, Plugs, Sheila, place_of}
use Rattle.host_bus.specs.Bus.{BusState, clock_of, after_read_of, after_write_of, bus_after_read, bus_after_write}

-- the state that no access changes
abbrev kept : BusState → Clock × ℕ × List Event
kept b = (b.board.clock, b.board.breaks, b.board.script)

pub read-kept : (p : Place) (b : BusState) (at : ℕ) → kept (after_read_of p b at) ≡ kept b
read-kept Plugs b at = refl
read-kept _ b at = refl

pub write-kept : (p : Place) (b : BusState) (at v : ℕ) → kept (after_write_of p b at v) ≡ kept b
write-kept Plugs b at v = refl
write-kept (Sheila RomLatch) b at v = refl
write-kept _ b at v = refl

pub read-same : (b : BusState) (at : ℕ) → clock_of (bus_after_read b at) ≡ clock_of b
read-same b at = ap (λ k. k.0) (read-kept (place_of at) b at)

pub write-same : (b : BusState) (at v : ℕ) → clock_of (bus_after_write b at v) ≡ clock_of b
write-same b at v = ap (λ k. k.0) (write-kept (place_of at) b at v)
