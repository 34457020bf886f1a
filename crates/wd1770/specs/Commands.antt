-- The writing of a command.
use Rattle.std.specs.Prelude.{ℕ, ◌/◌, ◌==◌, ◌||◌, nat_lt, false, not, if◌then◌else◌}
use Rattle.beeb_bits.specs.Bits.{bit}
use Rattle.wd1770.specs.declared.command.Command.{Command}
use Rattle.wd1770.specs.declared.command.Command.TheVariants.{Refusing}
use Rattle.wd1770.specs.State.{State}
use Rattle.wd1770.specs.Select.{is_reset}
use Rattle.wd1770.specs.Ends.{is_busy, end_leaves}
use Rattle.wd1770.specs.Motion.{motion_of}
use Rattle.wd1770.specs.Sectors.{sectors_of}
use Rattle.wd1770.specs.Addresses.{address_of}

-- 0x to 7x are type I, 8x to Bx type II. Ex and Fx, read track and write track, are refused: their
-- data is left out.
abbrev pub command_of : ℕ → State → Command
command_of v s =
    if nat_lt v 0x80 then motion_of v s
    else if nat_lt v 0xC0 then sectors_of v s
    else if nat_lt v 0xD0 then address_of s
    else Refusing

-- A command clears record not found, lost data, DRQ and INTRQ.
abbrev pub clear_leaves : State → State
clear_leaves s = record s { record_not_found = false; lost_data = false; drq = false; intrq = false }

abbrev pub begin_leaves : ℕ → State → State
begin_leaves v s = record (clear_leaves s) { command = command_of v s; type_one = nat_lt v 0x80 }

-- Dx, force interrupt, ends the command at once. D8 to DF raise INTRQ. If no command is in
-- progress, the status becomes that of type I.
abbrev pub force_leaves : ℕ → State → State
force_leaves v s = record (end_leaves (clear_leaves s)) { intrq = bit v 3; type_one = s.type_one || not (is_busy s.command) }

-- All commands are ignored in reset, and all except Dx while busy.
abbrev pub command_written : ℕ → State → State
command_written v s =
    if is_reset s.latch then s
    else if v / 16 == 0xD then force_leaves v s
    else if is_busy s.command then s
    else begin_leaves v s

-- A latch with bit 5 clear ends the command, and clears busy, DRQ and INTRQ.
abbrev pub stop_leaves : State → State
stop_leaves s = record (if is_busy s.command then end_leaves s else s) { drq = false; intrq = false }

abbrev pub latch_leaves : ℕ → State → State
latch_leaves v s = if is_reset v then stop_leaves (record s { latch = v }) else record s { latch = v }
