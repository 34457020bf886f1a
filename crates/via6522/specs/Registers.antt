-- The sixteen registers of the 6522: the answer of a read, and the state after a read and a write.
-- (6522 data sheet, Register Select.)
use Rattle.std.specs.Prelude.{ℕ, ◌+◌, ◌-◌, ◌/◌, ◌%◌, ◌==◌, ◌&&◌, ◌||◌, Bool, false, not, bit_and, bit_or, if◌then◌else◌}
use Rattle.beeb_bits.specs.Bits.{bit, weight}
use Rattle.via6522.specs.declared.Pins.{Pins}
use Rattle.via6522.specs.State.{State, InterruptFlags, Timer1, Timer2}
use Rattle.via6522.specs.Timers.{timer1_started, timer2_started}
use Rattle.via6522.specs.Lines.{is_ca2_independent, is_cb2_independent}

-- A port: the bits that are set in its direction register are outputs and have the written value.
-- The others have the pins' value.
abbrev pub port : ℕ → ℕ → ℕ → ℕ
port direction written pins = bit_or (bit_and written direction) (bit_and pins (255 - direction))

-- The output bits of the ports, with ones for inputs.
abbrev pub out_a : State → ℕ
out_a c = port c.ddra c.ora 255

abbrev pub out_b : State → ℕ
out_b c = port c.ddrb c.orb 255

-- the causes as bits 6 to 0
abbrev pub causes_byte : InterruptFlags → ℕ
causes_byte s =
    weight 64 s.timer1 + weight 32 s.timer2 + weight 16 s.cb1 + weight 8 s.cb2 + weight 4 s.shift + weight 2 s.ca1 + weight 1 s.ca2

-- The chip requests an interrupt: a flag and its enable bit are both set.
abbrev pub asks : State → Bool
asks c =
    (c.flags.timer1 && c.enabled.timer1) || (c.flags.timer2 && c.enabled.timer2) || (c.flags.cb1 && c.enabled.cb1) || (c.flags.cb2 && c.enabled.cb2)
    || (c.flags.shift && c.enabled.shift) || (c.flags.ca1 && c.enabled.ca1) || (c.flags.ca2 && c.enabled.ca2)

-- The answer of a read: ORB, ORA, DDRB, DDRA, timer 1's counter and latch, timer 2's counter, SR,
-- ACR, PCR, IFR with bit 7 set if an interrupt is requested, IER with bit 7 set, and ORA again.
abbrev pub answer_of : ℕ → Pins → State → ℕ
answer_of reg pins c =
    if reg == 0 then port c.ddrb c.orb pins.b
    else if reg == 1 then port c.ddra c.ora pins.a
    else if reg == 2 then c.ddrb
    else if reg == 3 then c.ddra
    else if reg == 4 then c.timer1.counter % 256
    else if reg == 5 then c.timer1.counter / 256
    else if reg == 6 then c.timer1.latch_low
    else if reg == 7 then c.timer1.latch_high
    else if reg == 8 then c.timer2.counter % 256
    else if reg == 9 then c.timer2.counter / 256
    else if reg == 10 then c.sr
    else if reg == 11 then c.acr
    else if reg == 12 then c.pcr
    else if reg == 13 then weight 128 (asks c) + causes_byte c.flags
    else if reg == 14 then 128 + causes_byte c.enabled
    else port c.ddra c.ora pins.a

-- An access to port A or B clears the flags of its control lines. The flag of an independent CA2 or
-- CB2 stays.
abbrev pub port_a_noticed : State → State
port_a_noticed c = record c { flags = record c.flags { ca1 = false; ca2 = c.flags.ca2 && is_ca2_independent c.pcr } }

abbrev pub port_b_noticed : State → State
port_b_noticed c = record c { flags = record c.flags { cb1 = false; cb2 = c.flags.cb2 && is_cb2_independent c.pcr } }

abbrev pub timer1_noticed : State → State
timer1_noticed c = record c { flags = record c.flags { timer1 = false } }

abbrev pub timer2_noticed : State → State
timer2_noticed c = record c { flags = record c.flags { timer2 = false } }

abbrev pub shift_noticed : State → State
shift_noticed c = record c { flags = record c.flags { shift = false } }

-- The state after a read. A read of ORB, of ORA (but not by register F), of a counter's low byte or
-- of the shift register clears flags.
abbrev pub read_leaves : ℕ → State → State
read_leaves reg c =
    if reg == 0 then port_b_noticed c
    else if reg == 1 then port_a_noticed c
    else if reg == 4 then timer1_noticed c
    else if reg == 8 then timer2_noticed c
    else if reg == 10 then shift_noticed c
    else c

-- the causes s, with each one set or cleared that v marks
abbrev pub set_marked : ℕ → InterruptFlags → InterruptFlags
set_marked v s = record {
  timer1 = s.timer1 || bit v 6;
  timer2 = s.timer2 || bit v 5;
  cb1 = s.cb1 || bit v 4;
  cb2 = s.cb2 || bit v 3;
  shift = s.shift || bit v 2;
  ca1 = s.ca1 || bit v 1;
  ca2 = s.ca2 || bit v 0;
}

abbrev pub clear_marked : ℕ → InterruptFlags → InterruptFlags
clear_marked v s = record {
  timer1 = s.timer1 && not (bit v 6);
  timer2 = s.timer2 && not (bit v 5);
  cb1 = s.cb1 && not (bit v 4);
  cb2 = s.cb2 && not (bit v 3);
  shift = s.shift && not (bit v 2);
  ca1 = s.ca1 && not (bit v 1);
  ca2 = s.ca2 && not (bit v 0);
}

abbrev pub with_timer1 : Timer1 → State → State
with_timer1 t c = record c { timer1 = t }

abbrev pub with_timer2 : Timer2 → State → State
with_timer2 t c = record c { timer2 = t }

-- a write to IER sets the marked bits if bit 7 is set, otherwise it clears them
abbrev pub enabled_by : ℕ → State → State
enabled_by v c = record c { enabled = if bit v 7 then set_marked v c.enabled else clear_marked v c.enabled }

-- The state after a write. A write to IFR clears the marked bits.
abbrev pub write_leaves : ℕ → ℕ → State → State
write_leaves reg v c =
    if reg == 0 then record (port_b_noticed c) { orb = v }
    else if reg == 1 then record (port_a_noticed c) { ora = v }
    else if reg == 2 then record c { ddrb = v }
    else if reg == 3 then record c { ddra = v }
    else if reg == 4 then with_timer1 (record c.timer1 { latch_low = v }) c
    else if reg == 5 then with_timer1 (timer1_started v c.timer1) (timer1_noticed c)
    else if reg == 6 then with_timer1 (record c.timer1 { latch_low = v }) c
    else if reg == 7 then with_timer1 (record c.timer1 { latch_high = v }) (timer1_noticed c)
    else if reg == 8 then with_timer2 (record c.timer2 { latch_low = v }) c
    else if reg == 9 then with_timer2 (timer2_started v c.timer2) (timer2_noticed c)
    else if reg == 10 then record (shift_noticed c) { sr = v }
    else if reg == 11 then record c { acr = v }
    else if reg == 12 then record c { pcr = v }
    else if reg == 13 then record c { flags = clear_marked v c.flags }
    else if reg == 14 then enabled_by v c
    else record c { ora = v }
