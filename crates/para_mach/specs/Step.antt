-- The model of the second processor's bus: its memory, the Tube, and the Tube's lines to its
-- processor. Its steps are those of a processor at this bus. (Acorn 6502 Second Processor; the
-- ticks are this project's.)
use Rattle.std.specs.Prelude.{ℕ, List, ◌-◌, ◌==◌, ◌&&◌, max, nat_le, Bool, true, false, not, Option, slice_index, slice_set, if◌then◌else◌}
use Rattle.beeb_bits.specs.Clock.{para}
use Rattle.op_table.specs.declared.names.Part.TheVariants.{Cmos}
use Rattle.cpu_alu.specs.declared.Cycle.{Cycle}
use Rattle.cpu_alu.specs.declared.Cycle.TheVariants.{Read, Write}
use Rattle.tube_chip.specs.declared.Answer.{Answer}
use Rattle.tube_party.specs.Transitions.{Transitions}
use Rattle.tube_machine.specs.BusModel.{BusModel}
use Rattle.tube_machine.specs.Step as at
use Rattle.para_mach.specs.State.{ParaBusState, ParaState}

-- FEF8 to FEFF are the Tube, by their low three bits
abbrev pub is_tube : ℕ → Bool
is_tube at = nat_le 0xFEF8 at && nat_le at 0xFEFF

-- the byte of an address that is not the Tube's: the boot ROM lies over the top while it is
-- switched in
abbrev pub memory : List ℕ → List ℕ → Bool → ℕ → ℕ
memory ram rom rom_in at = if rom_in && nat_le 0xF800 at then slice_index rom (at - 0xF800) else slice_index ram at

-- the RAM after an access; a write over the boot ROM goes to the RAM
abbrev pub ram_after : List ℕ → Cycle → List ℕ
ram_after ram (Read at) = ram
ram_after ram (Write at byte) = if is_tube at then ram else slice_set ram at byte

-- the first access at a Tube address, a read or a write, switches the boot ROM out
abbrev pub rom_in_after : Bool → Cycle → Bool
rom_in_after rom_in (Read at) = rom_in && not (is_tube at)
rom_in_after rom_in (Write at byte) = rom_in && not (is_tube at)

-- A reset is to be taken if the Tube's count of resets is not the one taken, an NMI by its count,
-- an IRQ by its line. A reset switches the boot ROM in, and takes the count of NMIs too. No break
-- comes, and an access takes one cycle.
abbrev pub para_bus_model : BusModel ParaBusState
para_bus_model = record {
  cycle = λ b. para b.clock;
  has_tube = λ b. true;
  is_tube = is_tube;
  answer = λ b t at. memory b.ram b.rom b.rom_in at;
  after = λ b c. record b { ram = ram_after b.ram c; rom_in = rom_in_after b.rom_in c };
  takes = λ b t c. para b.clock;
  resets = λ b l. not (l.resets == b.resets);
  nmi = λ b l. not (l.nmis == b.nmis);
  irq = λ b l. l.pirq;
  held = λ b. record b { is_held = true };
  reset = λ b l. record b { rom_in = true; resets = l.resets; nmis = l.nmis; is_held = false };
  taken = λ b l. record b { nmis = l.nmis; is_held = false };
  pending = λ b t. false;
  broken = λ b t. b;
  closed = λ b. b.closed;
  close = λ b t. record b { closed = max t b.closed };
}

-- what a step of the second processor is
abbrev pub next_state : ParaState → Option Answer → ParaState
next_state s answer = at.next_state Cmos para_bus_model s answer

-- The steps of the second processor.
abbrev pub para_transitions : Transitions ParaState
para_transitions = at.transitions_of Cmos para_bus_model
