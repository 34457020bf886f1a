-- The model of the host's bus: its addresses of the Tube, if it has one, the 1 MHz bus, the lines
-- to its processor, and BREAK. Without a Tube these addresses are the memory map's, and nothing
-- answers there. The host's steps are those of a processor at this bus. (Acorn, BBC Microcomputer
-- Advanced User Guide, the 1 MHz bus and the BREAK key; the ticks, and what BREAK leaves, are this
-- project's.)
use Rattle.std.specs.Prelude.{ℕ, ◌*◌, ◌/◌, ◌==◌, ◌&&◌, ◌||◌, nat_le, Bool, false, not, Option}
use Rattle.beeb_bits.specs.declared.clock.Clock.{Clock}
use Rattle.beeb_bits.specs.Clock.{host}
use Rattle.op_table.specs.declared.names.Part.TheVariants.{Nmos}
use Rattle.cpu_alu.specs.declared.Cycle.{Cycle}
use Rattle.cpu_alu.specs.declared.Cycle.TheVariants.{Read, Write}
use Rattle.tube_chip.specs.declared.Answer.{Answer}
use Rattle.tube_party.specs.Transitions.{Transitions}
use Rattle.host_devices.specs.Map.{stretch}
use Rattle.host_bus.specs.Bus.{BusState, clock_of, bus_closed, closed_at, bus_answer, bus_after_read, bus_after_write, bus_irq, bus_nmis, bus_break_pending, bus_break_taken}
use Rattle.tube_machine.specs.BusModel.{BusModel}
use Rattle.tube_machine.specs.Step as at
use Rattle.host_mach.specs.State.{HostBusState, HostState}

-- FEE0 to FEFF are the Tube, by their low three bits
abbrev pub is_tube : ℕ → Bool
is_tube at = nat_le 0xFEE0 at && nat_le at 0xFEFF

-- the bus after an access
abbrev pub bus_after : BusState → Cycle → BusState
bus_after b (Read at) = bus_after_read b at
bus_after b (Write at byte) = bus_after_write b at byte

abbrev pub address : Cycle → ℕ
address (Read at) = at
address (Write at byte) = at

-- The number of ticks of an access at tick t: those of a cycle for each cycle that it is stretched
-- to.
abbrev pub cycle_ticks : Clock → ℕ → Cycle → ℕ
cycle_ticks clock t c = host clock * stretch (address c) (t / host clock)

-- this bus, with all rises of its NMI line counted as taken
abbrev pub taken_with_nmis : HostBusState → BusState → HostBusState
taken_with_nmis h b = record h { bus = b; nmis = bus_nmis b }

-- An NMI is asked for if the count of its line's rises is not the one taken; an IRQ by the lines of
-- the bus and of the Tube. The Tube's reset line does not reach the host.
abbrev pub host_bus_model : BusModel HostBusState
host_bus_model = record {
  cycle = λ b. host (clock_of b.bus);
  has_tube = λ b. b.tube;
  is_tube = is_tube;
  answer = λ b t at. bus_answer b.bus t at;
  after = λ b c. record b { bus = bus_after b.bus c };
  takes = λ b t c. cycle_ticks (clock_of b.bus) t c;
  resets = λ b l. false;
  nmi = λ b l. not (bus_nmis b.bus == b.nmis);
  irq = λ b l. bus_irq b.bus || l.hirq;
  held = λ b. b;
  reset = λ b l. b;
  taken = λ b l. taken_with_nmis b b.bus;
  pending = λ b t. bus_break_pending b.bus t;
  broken = λ b t. taken_with_nmis b (bus_break_taken b.bus t);
  closed = λ b. closed_at b.bus;
  close = λ b t. record b { bus = bus_closed b.bus t };
}

-- what a step of the host is

abbrev pub is_break : HostState → Bool
is_break s = at.is_break Nmos host_bus_model s

abbrev pub byte_of : HostBusState → ℕ → Option Answer → Cycle → ℕ
byte_of b t answer c = at.byte_of host_bus_model b t answer c

abbrev pub after_break : HostState → HostState
after_break s = at.after_break Nmos host_bus_model s

abbrev pub after_step : Option Cycle → HostState → Option Answer → HostState
after_step o s answer = at.after_step Nmos host_bus_model o s answer

abbrev pub host_closed : HostState → ℕ → HostState
host_closed s t = at.closed_to host_bus_model s t

abbrev pub next_state : HostState → Option Answer → HostState
next_state s answer = at.next_state Nmos host_bus_model s answer

-- The steps of the host.
abbrev pub host_transitions : Transitions HostState
host_transitions = at.transitions_of Nmos host_bus_model
