-- The addresses of memory. A read there gives the byte at the address.
use Rattle.std.proofs.Common.{ℕ, ◌≡◌, ◌≤◌, ◌<◌, Bool, true, false, Some, refl, arith}
use Rattle.std.proofs.lemmas.Grind.{common_steps}
use Rattle.host_devices.specs.Map.{Place, Ram, PagedRom, OsRom, place_of}
use Rattle.host_bus.specs.Bus.{BusState, answer_of, bus_answer}
use Rattle.host_bus.specs.Peek.{memory_at, bus_peek}

abbrev is_memory : Place → Bool
is_memory Ram = true
is_memory PagedRom = true
is_memory OsRom = true
is_memory _ = false

low-memory : (at : ℕ) → at < 0xfc00 → is_memory (place_of at) ≡ true
low-memory at h = grind (arith, common_steps)

top-memory : (at : ℕ) → 0xff00 ≤ at → at < 65536 → is_memory (place_of at) ≡ true
top-memory at h top = grind (arith, common_steps)

stands : (p : Place) (b : BusState) (t at : ℕ) → is_memory p ≡ true → memory_at p b.board at ≡ Some (answer_of p b t at)
stands Ram b t at is = refl
stands PagedRom b t at is = refl
stands OsRom b t at is = refl
stands _ b t at is = cc

pub peek-low : (b : BusState) (t at : ℕ) → at < 0xfc00 → bus_peek b at ≡ Some (bus_answer b t at)
peek-low b t at h = stands (place_of at) b t at (low-memory at h)

pub peek-top : (b : BusState) (t at : ℕ) → 0xff00 ≤ at → at < 65536 → bus_peek b at ≡ Some (bus_answer b t at)
peek-top b t at h top = stands (place_of at) b t at (top-memory at h top)
