-- No step of the host changes the clock of its ticks.
use Rattle.std.specs.Prelude.{◌≡◌, ◌+◌, Bool, true, false, if◌then◌else◌, Option, Some, None, refl}
use Rattle.cpu_alu.specs.declared.Cycle.{Cycle}
use Rattle.cpu_alu.specs.declared.Cycle.TheVariants.{Read, Write}
use Rattle.cpu6502.specs.Sequences.{next_cycle}
use Rattle.tube_chip.specs.declared.Answer.{Answer}
use Rattle.host_bus.specs.Bus.{BusState, clock_of}
use Rattle.host_bus.specs.SameClock.{read-same, write-same}
use Rattle.host_mach.specs.State.{HostState}
use Rattle.host_mach.specs.Step.{bus_after, is_break, after_break, after_step, host_closed, next_state}

pub access-same : (b : BusState) (c : Cycle) → clock_of (bus_after b c) ≡ clock_of b
access-same b (Read at) = read-same b at
access-same b (Write at v) = write-same b at v

step-same : (o : Option Cycle) (s : HostState) (a : Option Answer) → clock_of (after_step o s a).bus.bus ≡ clock_of s.bus.bus
step-same None s a = refl
step-same (Some c) s a = access-same s.bus.bus c

-- with either kind of step
same-by : (breaks : Bool) (o : Option Cycle) (s : HostState) (a : Option Answer) → clock_of (if breaks then after_break s else after_step o s a).bus.bus ≡ clock_of s.bus.bus
same-by true o s a = refl
same-by false o s a = step-same o s a

pub next_cycle-same : (s : HostState) (a : Option Answer) → clock_of (next_state s a).bus.bus ≡ clock_of s.bus.bus
next_cycle-same s a = same-by (is_break s) (next_cycle s.cpu) (host_closed s (s.due + 1)) a
