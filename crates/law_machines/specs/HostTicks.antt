-- The duration of a sequence of the host: an instruction, a reset, an NMI or an IRQ. It begins with
-- the first access, and ends with the look after the last one, or with the break step in place of
-- this look.
-- (MCS6500 Hardware Manual, summary of single cycle execution; BBC Microcomputer Advanced User
-- Guide, the 1 MHz bus.)
use Rattle.std.specs.Prelude.{ℕ, ◌+◌, ◌-◌, ◌*◌, ◌/◌, ◌%◌, ◌||◌, Bool, ◌≡◌, ◌<◌, ◌==◌, false, List, [], ◌∷◌, ◌++◌, length, Option, Some, None, is_none, if◌then◌else◌}
use Rattle.beeb_bits.specs.declared.clock.Clock.{Clock}
use Rattle.beeb_bits.specs.Clock.{host}
use Rattle.op_table.specs.declared.names.Part.TheVariants.{Nmos}
use Rattle.op_table.specs.declared.rows.Row.{Row}
use Rattle.cpu_alu.specs.declared.Cycle.{Cycle}
use Rattle.cpu_core.specs.declared.Sequence.TheVariants.{Instruction}
use Rattle.cpu_core.specs.Accesses.{row_at}
use Rattle.cpu6502.specs.Sequences.{next_cycle}
use Rattle.tube_chip.specs.declared.Answer.{Answer}
use Rattle.bus_plug.specs.Plug.{Plug}
use Rattle.rom_set.specs.Roms.{Roms}
use Rattle.disc_image.specs.Image.{Image}
use Rattle.key_script.specs.declared.Event.{Event}
use Rattle.host_devices.specs.Map.{stretched_in, memory_map}
use Rattle.host_bus.specs.Bus.{clock_of}
use Rattle.host_mach.specs.State.{HostState, cycle_of, power_on}
use Rattle.host_mach.specs.Step.{address, is_break, next_state}
use Rattle.law_machines.specs.Cycles.{the_cycle}
use Rattle.law_machines.specs.Further.{further}

-- steps one after the other, each with the Tube's answer, if it was asked
abbrev pub run : List (Option Answer) → HostState → HostState
run [] s = s
run (a ∷ answers) s = run answers (next_state s a)

-- the accesses of those steps
abbrev pub cycles : List (Option Answer) → HostState → List Cycle
cycles [] s = []
cycles (a ∷ answers) s = the_cycle (next_cycle s.cpu) ++ cycles answers (next_state s a)

-- The next step is an access, neither a look nor a break step.
abbrev pub IsAccess : HostState → Type 0
IsAccess s = (is_break s ≡ false) × (is_none (next_cycle s.cpu) ≡ false)

-- Each of the steps is an access.
abbrev pub AllAccess : List (Option Answer) → HostState → Type 0
AllAccess [] s = Unit {0}
AllAccess (a ∷ answers) s = IsAccess s × AllAccess answers (next_state s a)

-- The cycles that an access at tick `t` waits for the 1 MHz clock: none if its address is none of a
-- 1 MHz device. Otherwise one if its own cycle is even, and two if it is odd.
abbrev pub wait : Clock → ℕ → Cycle → ℕ
wait clock t c = if stretched_in memory_map (address c) then (if t / host clock % 2 == 0 then 1 else 2) else 0

-- the ticks of accesses from tick `t` on: one cycle each, and the cycles that they wait
abbrev pub takes : Clock → ℕ → List Cycle → ℕ
takes clock t [] = 0
takes clock t (c ∷ cs) = host clock * (1 + wait clock t c) + takes clock (t + host clock * (1 + wait clock t c)) cs

-- From any access on, let the accesses up to the end of its sequence be done. The look, or the
-- break step in its place, is at the last of their ticks, and the next sequence begins after it.
pub record HostTakes : Type 0 where
  pub look : (s : HostState) (answers : List (Option Answer)) → 0 < length answers → AllAccess answers s → next_cycle (run answers s).cpu ≡ None →
      (run answers s).due + 1 ≡ s.due + takes (clock_of s.bus.bus) s.due (cycles answers s)
  pub behind : (s : HostState) (answers : List (Option Answer)) (answer : Option Answer) →
      0 < length answers → AllAccess answers s → next_cycle (run answers s).cpu ≡ None →
      (next_state (run answers s) answer).due ≡ s.due + takes (clock_of s.bus.bus) s.due (cycles answers s)

-- tick `t` is the last of a cycle of `n` ticks if `ends` is set, otherwise the first
abbrev pub IsAt : Bool → ℕ → ℕ → Type 0
IsAt ends n t = t % n ≡ (if ends then n - 1 else 0)

-- An access is at the first tick of a cycle, and a look or a break step at the last one.
abbrev pub IsOnCycle : HostState → Type 0
IsOnCycle s = IsAt (is_break s || is_none (next_cycle s.cpu)) (cycle_of s) s.due

-- This holds at power-on, and after each step.
pub record HostKeepsCycles : Type 0 where
  pub first : (clock : Clock) (roms : Roms) (d0 d1 : Option Image) (script : List Event) (plugs : List Plug) →
      IsOnCycle (power_on clock roms d0 d1 script plugs)
  pub next : (s : HostState) (answer : Option Answer) → IsOnCycle s → IsOnCycle (next_state s answer)

-- The number of accesses of an instruction that is over is exactly the number of cycles that the
-- instruction table has for its opcode, and its further ones. The opcode is the first byte that the
-- processor read.
abbrev pub HostTakesTheTable : Type 0
HostTakesTheTable =
    (s : HostState) (answers : List (Option Answer)) (op : ℕ) (seen : List (Option ℕ)) (row : Row) →
    s.cpu.sequence ≡ Instruction → s.cpu.seen ≡ [] → AllAccess answers s → next_cycle (run answers s).cpu ≡ None →
    (run answers s).cpu.seen ≡ Some op ∷ seen → op < 256 → row_at Nmos op ≡ Some row →
    length (cycles answers s) ≡ row.cycles + further Nmos op s.cpu.regs (Some op ∷ seen)
