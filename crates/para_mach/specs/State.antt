-- The second processor: a 65C02 with 65,536 bytes of RAM, a boot ROM over the top of it, and the
-- Tube in eight of its addresses.
use Rattle.std.specs.Prelude.{ℕ, List, Bool, true, false, if◌then◌else◌}
use Rattle.beeb_bits.specs.declared.clock.Clock.{Clock}
use Rattle.beeb_bits.specs.Zeros.{zeros}
use Rattle.cpu_alu.specs.declared.Regs.{Regs}
use Rattle.cpu65c02.specs.Sequences as sequences
use Rattle.tube_machine.specs.Step.{At, at_of}

-- 65,536 bytes of RAM, and 2,048 of boot ROM, which lie over F800 to FFFF for reads while rom_in is
-- set
pub record MemoryState : Type 0 where
  pub ram : List ℕ
  pub rom : List ℕ
  pub rom_in : Bool

pub record ParaBusState : Type 0 where
  -- its speed: a cycle is `para clock` ticks
  pub clock : Clock
  -- 65,536 bytes
  pub ram : List ℕ
  -- 2,048 bytes, which lie over F800 to FFFF for reads while rom_in is set
  pub rom : List ℕ
  pub rom_in : Bool
  -- the Tube's counts of resets and NMIs as last taken
  pub resets : ℕ
  pub nmis : ℕ
  -- its processor was held at the last look, since the reset line was on
  pub is_held : Bool
  -- the tick at which it counts as closed; it has no devices
  pub closed : ℕ

abbrev pub ParaState : Type 0
ParaState = At ParaBusState

-- 65,536 bytes 00
abbrev pub clear_ram : List ℕ
clear_ram = zeros 65536

-- the power-on state at this speed, with this boot ROM
abbrev pub power_on : Clock → List ℕ → ParaState
power_on clock rom = at_of sequences.power_on (record {
  clock = clock;
  ram = clear_ram;
  rom = rom;
  rom_in = true;
  resets = 0;
  nmis = 0;
  is_held = false;
  closed = 0;
}) 0

-- the registers that are shown: those at the start of the instruction or sequence of the next step,
-- or while it is held those after the one before
abbrev pub shown_regs : ParaState → Regs
shown_regs s = if s.bus.is_held then sequences.after s.cpu else s.cpu.regs
