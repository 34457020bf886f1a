-- The Tube chip: its flags, its registers both ways, and its two counts.
use Rattle.std.specs.Prelude.{ℕ, ◌==◌, ◌&&◌, ◌||◌, Bool, false, not, [], if◌then◌else◌}
use Rattle.beeb_bits.specs.declared.Side.{Side}
use Rattle.beeb_bits.specs.declared.Side.TheVariants.{Host, Para}
use Rattle.tube_chip.specs.declared.Lines.{Lines}
use Rattle.tube_chip.specs.Register.{Register, empty, holds, count}

-- The six flags of the control register, by their letters in Application Note 004.
pub record Flags : Type 0 where
  -- P: the parasite's reset line is active
  pub p : Bool
  -- V: register 3 takes two bytes
  pub v : Bool
  -- M: the parasite's NMI from register 3 is enabled
  pub m : Bool
  -- J: the parasite's IRQ from register 4 is enabled
  pub j : Bool
  -- I: the parasite's IRQ from register 1 is enabled
  pub i : Bool
  -- Q: the host's IRQ from register 4 is enabled
  pub q : Bool

-- The four registers, in one direction.
pub record Bank : Type 0 where
  pub r1 : Register
  pub r2 : Register
  pub r3 : Register
  pub r4 : Register

pub record State : Type 0 where
  pub flags : Flags
  pub to_host : Bank
  pub to_para : Bank
  -- the number of rises of the NMI condition, modulo 2^32
  pub nmis : ℕ
  -- the number of reset operations and of other rises of P, modulo 2^32
  pub resets : ℕ

-- register k of a bank, from 1 to 4
abbrev pub register : ℕ → Bank → Register
register k bank = if k == 1 then bank.r1 else if k == 2 then bank.r2 else if k == 3 then bank.r3 else bank.r4

-- the bank with register k changed
abbrev pub with_register : ℕ → Register → Bank → Bank
with_register k r bank =
    if k == 1 then record bank { r1 = r }
    else if k == 2 then record bank { r2 = r }
    else if k == 3 then record bank { r3 = r }
    else record bank { r4 = r }

-- the registers that a side reads
abbrev pub incoming_bank : Side → State → Bank
incoming_bank Host c = c.to_host
incoming_bank Para c = c.to_para

-- the registers that a side writes
abbrev pub outgoing_bank : Side → State → Bank
outgoing_bank Host c = c.to_para
outgoing_bank Para c = c.to_host

abbrev pub with_incoming : Side → Bank → State → State
with_incoming Host bank c = record c { to_host = bank }
with_incoming Para bank c = record c { to_para = bank }

abbrev pub with_outgoing : Side → Bank → State → State
with_outgoing Host bank c = record c { to_para = bank }
with_outgoing Para bank c = record c { to_host = bank }

-- The number of bytes that a register takes from a side: 24 in register 1 from the parasite, two in
-- register 3 if V is set, and otherwise one.
abbrev pub capacity : Side → ℕ → Flags → ℕ
capacity Host k flags = if k == 3 && flags.v then 2 else 1
capacity Para k flags = if k == 1 then 24 else if k == 3 && flags.v then 2 else 1

abbrev pub is_empty : Register → Bool
is_empty r = count r == 0

-- register 3 has what its reader waits for: two bytes if V is set, otherwise any
abbrev pub is_ready : Bool → Register → Bool
is_ready v r = if v then count r == 2 else not (is_empty r)

-- N, the condition of the parasite's NMI: register 3 has what the parasite waits for, or room for
-- what it sends. (This project's profile.)
abbrev pub wants_service : State → Bool
wants_service c = is_ready c.flags.v c.to_para.r3 || is_empty c.to_host.r3

-- M and N
abbrev pub asks_nmi : State → Bool
asks_nmi c = c.flags.m && wants_service c

-- The lines, as a look sees them.
abbrev pub lines_of : State → Lines
lines_of c = record {
  prst = c.flags.p;
  resets = c.resets;
  nmis = c.nmis;
  pirq = (c.flags.i && not (is_empty c.to_para.r1)) || (c.flags.j && not (is_empty c.to_para.r4));
  hirq = c.flags.q && not (is_empty c.to_host.r4);
}

-- all registers empty, with remembered byte 00
abbrev pub clear_bank : Bank
clear_bank = record { r1 = empty 0; r2 = empty 0; r3 = empty 0; r4 = empty 0 }

-- The registers cleared: all are emptied, and register 3 to the host gets one byte 00; flags and
-- counts stay. (That byte, and the remembered ones, are this project's profile.)
abbrev pub clear_leaves : State → State
clear_leaves c = record c { to_host = record clear_bank { r3 = holds 0 [] }; to_para = clear_bank }

abbrev pub no_flags : Flags
no_flags = record { p = false; v = false; m = false; j = false; i = false; q = false }

-- the chip at power-on: no flag set, no count, cleared registers
abbrev pub power_on : State
power_on = record {
  flags = no_flags;
  to_host = record clear_bank { r3 = holds 0 [] };
  to_para = clear_bank;
  nmis = 0;
  resets = 0;
}
