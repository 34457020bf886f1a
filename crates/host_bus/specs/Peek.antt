-- The byte at an address of the host's memory. No tick and no device changes the answer of a read
-- there.
use Rattle.std.specs.Prelude.{ℕ, ◌≡◌, ◌-◌, Option, Some, None, slice_index, refl}
use Rattle.rom_set.specs.Roms.{rom_byte}
use Rattle.host_devices.specs.Map.{Place, Ram, PagedRom, OsRom, place_of}
use Rattle.host_bus.specs.Board.{BoardState}
use Rattle.host_bus.specs.Bus.{BusState, bus_closed}

-- of the RAM, of the ROM in the latch's slot, or of the operating system; none if a device answers
abbrev pub memory_at : Place → BoardState → ℕ → Option ℕ
memory_at Ram b at = Some (slice_index b.ram at)
memory_at PagedRom b at = Some (rom_byte b.roms.slots b.latch (at - 0x8000))
memory_at OsRom b at = Some (slice_index b.roms.os (at - 0xC000))
memory_at _ b at = None

abbrev pub bus_peek : BusState → ℕ → Option ℕ
bus_peek b at = memory_at (place_of at) b.board at

-- Closing the bus leaves it.
leaves : (p : Place) (b : BusState) (t at : ℕ) → memory_at p (bus_closed b t).board at ≡ memory_at p b.board at
leaves Ram b t at = refl
leaves _ b t at = refl

pub peek-leaves : (b : BusState) (t at : ℕ) → bus_peek (bus_closed b t) at ≡ bus_peek b at
peek-leaves b t at = leaves (place_of at) b t at
