-- The tick up to which the host asks nothing.
use Rattle.std.specs.Prelude.{ℕ, max, min, unwrap_or, ◌&&◌, not, if◌then◌else◌}
use Rattle.cpu6502.specs.Sequences.{halted}
use Rattle.host_bus.specs.Bus.{bus_next_break}
use Rattle.host_mach.specs.State.{HostState}
use Rattle.host_mach.specs.Step.{is_tube}

-- A halted host reads its opcode's address in every cycle. If the Tube does not answer there, it
-- asks nothing before the next break: it is quiet up to the break, or to the end of the longest
-- run.
abbrev pub quiet_of : HostState → ℕ
quiet_of s =
    if halted s.cpu && not (s.bus.tube && is_tube s.cpu.regs.pc) then max s.due (min 1073741824 (unwrap_or (bus_next_break s.bus.bus) 1073741824)) else s.due
