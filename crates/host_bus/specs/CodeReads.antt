-- The array for reads holds the RAM, the paged ROM and the operating system.
use Rattle.std.specs.Prelude.{ℕ, List, ◌≡◌, ◌<◌, ◌≤◌, ◌+◌, ◌-◌, slice_index}
use Rattle.rom_set.specs.Roms.{Rom, rom_byte}

-- Reads give the RAM below 8000, the ROM of the latch's slot from 8000 on, and the operating system
-- from C000 on.
pub record Shows (ram : List ℕ) (slots : List Rom) (latch : ℕ) (os shown : List ℕ) : Type 0 where
  pub low : (at : ℕ) → at < 32768 → slice_index shown at ≡ slice_index ram at
  pub paged : (at : ℕ) → 32768 ≤ at → at < 49152 → slice_index shown at ≡ rom_byte slots latch (at - 32768)
  pub high : (at : ℕ) → 49152 ≤ at → at < 65536 → slice_index shown at ≡ slice_index os (at - 49152)

-- Reads at the `n` addresses from `start` on give the bytes of `byte`. Reads at all other addresses
-- give what they gave before.
pub record HasBytes (old : List ℕ) (start n : ℕ) (byte : ℕ → ℕ) (new : List ℕ) : Type 0 where
  pub below : (at : ℕ) → at < start → slice_index new at ≡ slice_index old at
  pub within : (at : ℕ) → start ≤ at → at < start + n → slice_index new at ≡ byte at
  pub above : (at : ℕ) → start + n ≤ at → slice_index new at ≡ slice_index old at
