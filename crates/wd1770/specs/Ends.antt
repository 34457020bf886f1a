-- The end of a command, the motor, and the NMI line to the host.
use Rattle.std.specs.Prelude.{◌+◌, ◌%◌, ◌^◌, ◌&&◌, ◌||◌, nat_lt, Bool, true, false, not, if◌then◌else◌}
use Rattle.wd1770.specs.declared.command.Command.{Command}
use Rattle.wd1770.specs.declared.command.Command.TheVariants.{Idle}
use Rattle.wd1770.specs.State.{State}

abbrev pub is_busy : Command → Bool
is_busy Idle = false
is_busy _ = true

-- The motor is on from a command's writing until 2,000,000 steps after its end.
abbrev pub is_motor_on : State → Bool
is_motor_on s = is_busy s.command || nat_lt 0 s.motor

abbrev pub end_leaves : State → State
end_leaves s = record s { command = Idle; motor = 2000000 }

-- At the end of a command busy is cleared and INTRQ rises.
abbrev pub finish_leaves : State → State
finish_leaves s = record (end_leaves s) { intrq = true }

abbrev pub not_found : State → State
not_found s = finish_leaves (record s { record_not_found = true })

-- The host's NMI line is "DRQ or INTRQ". Its rises are counted, from its level before a step or an
-- access.
abbrev pub is_asking : State → Bool
is_asking s = s.drq || s.intrq

abbrev pub count_leaves : Bool → State → State
count_leaves before s = record s { nmis = if is_asking s && not before then (s.nmis + 1) % 2 ^ 64 else s.nmis }
