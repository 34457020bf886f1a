-- The four registers of the WD1770: the answer of a read, and the state after a read and a write.
use Rattle.std.specs.Prelude.{ℕ, ◌+◌, ◌==◌, ◌&&◌, nat_lt, Bool, false, Option, None, Some, if◌then◌else◌}
use Rattle.wd1770.specs.State.{State}
use Rattle.wd1770.specs.Select.{head_selected}
use Rattle.wd1770.specs.Ends.{is_busy, is_motor_on, is_asking, count_leaves}
use Rattle.wd1770.specs.Commands.{command_written}

-- the weight of a set bit, otherwise 0
abbrev pub weight : ℕ → Bool → ℕ
weight n b = if b then n else 0

-- the angle in the status: 0 before the first step
abbrev pub angle_shown : Option ℕ → ℕ
angle_shown None = 0
angle_shown (Some angle) = angle

-- Bit 7 is the motor. Bit 5 is the motor too after type I. Bit 4 is record not found, and bit 0
-- busy. After type I, bit 2 is the selected head at track 0, and bit 1 the index, an angle below
-- 4,000. After other commands, bit 2 is lost data and bit 1 DRQ.
abbrev pub status : State → ℕ
status s =
    weight 128 (is_motor_on s)
    + weight 32 (s.type_one && is_motor_on s)
    + weight 16 s.record_not_found
    + weight 4 (if s.type_one then head_selected s == 0 else s.lost_data)
    + weight 2 (if s.type_one then nat_lt (angle_shown s.angle) 4000 else s.drq)
    + weight 1 (is_busy s.command)

-- A read of register 0 is the status, and a write to it the command. Register 1 is the track, 2 the
-- sector and 3 the data register.
abbrev pub answer_of : ℕ → State → ℕ
answer_of reg s = if reg == 0 then status s else if reg == 1 then s.track else if reg == 2 then s.sector else s.byte

-- A read of the status clears INTRQ. A read or a write of the data register clears DRQ.
abbrev pub register_read : ℕ → State → State
register_read reg s = if reg == 0 then record s { intrq = false } else if reg == 3 then record s { drq = false } else s

abbrev pub register_written : ℕ → ℕ → State → State
register_written reg v s =
    if reg == 0 then command_written v s
    else if reg == 1 then record s { track = v }
    else if reg == 2 then record s { sector = v }
    else record s { byte = v; drq = false }

-- the whole accesses, with the rises of the NMI line
abbrev pub read_leaves : ℕ → State → State
read_leaves reg s = count_leaves (is_asking s) (register_read reg s)

abbrev pub write_leaves : ℕ → ℕ → State → State
write_leaves reg v s = count_leaves (is_asking s) (register_written reg v s)
