-- An access of the Tube does not change the bus, and is not stretched.
use Rattle.std.proofs.Common.{ℕ, ◌≡◌, ◌≤◌, ◌∙◌, ◌*◌, ◌/◌, ◌&&◌, ap, Bool, true, false, Some, arith}
use Rattle.std.proofs.lemmas.Grind.{common_steps}
use Rattle.std.proofs.Math.Nat.{mul-one}
use Rattle.beeb_bits.specs.Clock.{host}
use Rattle.cpu_alu.specs.declared.Cycle.{Cycle}
use Rattle.cpu_alu.specs.declared.Cycle.TheVariants.{Read, Write}
use Rattle.host_bus.specs.Bus.{BusState, clock_of}
use Rattle.host_bus.specs.AtTube.{tube-read, tube-write, tube-fast}
use Rattle.tube_chip.specs.Act.{access}
use Rattle.tube_chip.specs.declared.Op.{Op}
use Rattle.tube_machine.specs.Step.{asks_by}
use Rattle.tube_machine.specs.Exchange.{IsAtTube, IsOneCycle}
use Rattle.host_mach.specs.State.{HostBusState}
use Rattle.host_mach.specs.Step.{is_tube, host_bus_model, address, bus_after, cycle_ticks}

is-there : (has tube : Bool) → (has && tube) ≡ true → tube ≡ true
is-there true tube is = is
is-there false tube is = cc

from : (at : ℕ) → is_tube at ≡ true → 0xFEE0 ≤ at
from at is = grind (arith, common_steps)

to : (at : ℕ) → is_tube at ≡ true → at ≤ 0xFEFF
to at is = grind (arith, common_steps)

leaves : (b : BusState) (c : Cycle) → is_tube (address c) ≡ true → bus_after b c ≡ b
leaves b (Read at) is = tube-read b at (from at is) (to at is)
leaves b (Write at v) is = tube-write b at v (from at is) (to at is)

there : (h : HostBusState) (c : Cycle) → IsAtTube host_bus_model h c → is_tube (address c) ≡ true
there h (Read at) is = is-there h.tube (is_tube at) is
there h (Write at v) is = is-there h.tube (is_tube at) is

pub tube-leaves : (h : HostBusState) (c : Cycle) → IsAtTube host_bus_model h c → bus_after h.bus c ≡ h.bus
tube-leaves h c is = leaves h.bus c (there h c is)

pub tube-ticks : (h : HostBusState) (t : ℕ) (c : Cycle) → IsAtTube host_bus_model h c → cycle_ticks (clock_of h.bus) t c ≡ host (clock_of h.bus)
tube-ticks h t c is =
    let tube = there h c is in
    let n : ℕ = host (clock_of h.bus) in
    ap (λ (k : ℕ). n * k) (tube-fast (address c) (t / n) (from (address c) tube) (to (address c) tube)) ∙ mul-one n

asked_at : (h : HostBusState) (c : Cycle) (o : Op) → asks_by host_bus_model h (Some c) ≡ Some (access o) → (t : ℕ) → IsAtTube host_bus_model (host_bus_model.close h t) c
asked_at h c o asks t = grind arith

-- so a port may answer it
pub tube-skip : (h : HostBusState) (c : Cycle) (o : Op) → asks_by host_bus_model h (Some c) ≡ Some (access o) → IsOneCycle host_bus_model h c o
tube-skip h c o asks = record {
  asks = asks;
  leaves = λ t. ap (λ (x : BusState). record (host_bus_model.close h t) { bus = x }) (tube-leaves (host_bus_model.close h t) c (asked_at h c o asks t));
  fast = λ t u. tube-ticks (host_bus_model.close h u) t c (asked_at h c o asks u);
}
