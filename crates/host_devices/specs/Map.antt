-- The memory map of the host. (Acorn, BBC Microcomputer Advanced User Guide, memory map and
-- Sheila.)
use Rattle.std.specs.Prelude.{ℕ, ◌%◌, ◌==◌, nat_le, Bool, true, false, List, [], ◌∷◌, if◌then◌else◌}
use Rattle.host_devices.specs.declared.map.Device.{Device}
use Rattle.host_devices.specs.declared.map.Device.TheVariants.{Crtc, Acia, SerialUla, VideoUla, RomLatch, SystemVia, UserVia, DiscLatch, DiscController, Absent, Adc, Tube}

-- The memory or device at an address: the RAM, the ROM of the latch's slot, the operating system's
-- ROM, the plugged devices in FRED and JIM, or a device in SHEILA.
pub data Place : Type 0 where
  Ram : Place
  PagedRom : Place
  OsRom : Place
  Plugs : Place
  Sheila : Device → Place

-- The addresses after the area before, up to `last`.
pub record Area : Type 0 where
  pub last : ℕ
  pub place : Place
  -- an access waits for the 1 MHz clock
  pub stretched : Bool

abbrev pub fast : ℕ → Place → Area
fast last place = record { last = last; place = place; stretched = false }

abbrev pub slow : ℕ → Place → Area
slow last place = record { last = last; place = place; stretched = true }

-- The areas by rising addresses, from 0000 to FFFF.
abbrev pub memory_map : List Area
memory_map =
    fast 0x7FFF Ram
    ∷ fast 0xBFFF PagedRom
    ∷ fast 0xFBFF OsRom
    ∷ slow 0xFDFF Plugs
    ∷ slow 0xFE07 (Sheila Crtc)
    ∷ slow 0xFE0F (Sheila Acia)
    ∷ slow 0xFE1F (Sheila SerialUla)
    ∷ fast 0xFE2F (Sheila VideoUla)
    ∷ fast 0xFE3F (Sheila RomLatch)
    ∷ slow 0xFE5F (Sheila SystemVia)
    ∷ slow 0xFE7F (Sheila UserVia)
    ∷ fast 0xFE83 (Sheila DiscLatch)
    ∷ fast 0xFE87 (Sheila DiscController)
    ∷ fast 0xFEBF (Sheila Absent)
    ∷ slow 0xFEDF (Sheila Adc)
    ∷ fast 0xFEFF (Sheila Tube)
    ∷ fast 0xFFFF OsRom
    ∷ []

-- the first area that reaches the address; there is none above FFFF
abbrev pub place_in : List Area → ℕ → Place
place_in [] at = Sheila Absent
place_in (a ∷ areas) at = if nat_le at a.last then a.place else place_in areas at

abbrev pub stretched_in : List Area → ℕ → Bool
stretched_in [] at = false
stretched_in (a ∷ areas) at = if nat_le at a.last then a.stretched else stretched_in areas at

abbrev pub place_of : ℕ → Place
place_of at = place_in memory_map at

-- The number of 2 MHz cycles of an access that begins at `cycle`: one. If the access waits, two
-- from an even cycle on, and three from an odd one.
abbrev pub stretch : ℕ → ℕ → ℕ
stretch at cycle = if stretched_in memory_map at then (if cycle % 2 == 0 then 2 else 3) else 1
