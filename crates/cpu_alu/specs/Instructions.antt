-- The registers after each instruction, and the byte that it writes: MCS6500 Programming Manual,
-- and the 65C02's data sheet.
use Rattle.std.specs.Prelude.{ℕ, ◌+◌, ◌-◌, ◌%◌, Bool, true, false, not, eqb, bit_and, bit_or, bit_xor}
use Rattle.op_table.specs.declared.names.Part.{Part}
use Rattle.op_table.specs.declared.names.Mode.{Mode}
use Rattle.op_table.specs.declared.names.Mode.TheVariants.{Acc, Imm}
use Rattle.op_table.specs.declared.names.Mnemonic.{Mnemonic}
use Rattle.op_table.specs.declared.names.Mnemonic.TheVariants.{Adc, And, Asl, Bcc, Bcs, Beq, Bit, Bmi, Bne, Bpl, Bra, Brk, Bvc, Bvs, Clc, Cld, Cli}
use Rattle.op_table.specs.declared.names.Mnemonic.TheVariants.{Clv, Cmp, Cpx, Cpy, Dec, Dex, Dey, Eor, Inc, Inx, Iny, Jmp, Jsr, Lda, Ldx, Ldy, Lsr}
use Rattle.op_table.specs.declared.names.Mnemonic.TheVariants.{Ora, Pha, Php, Phx, Phy, Pla, Plp, Plx, Ply, Rol, Ror, Rti, Rts, Sbc, Sec, Sed, Sei}
use Rattle.op_table.specs.declared.names.Mnemonic.TheVariants.{Sta, Stx, Sty, Stz, Tax, Tay, Trb, Tsb, Tsx, Txa, Txs, Tya}
use Rattle.cpu_alu.specs.declared.Sum.{Sum}
use Rattle.cpu_alu.specs.declared.Regs.{Regs}
use Rattle.cpu_alu.specs.declared.uses.BusUse.{BusUse}
use Rattle.cpu_alu.specs.declared.uses.BusUse.TheVariants.{Implied, Reads, Stores, Shifts, Modifies, Pushes, Pulls, Branches, Jumps, Calls, Returns, Resumes, Breaks}
use Rattle.cpu_alu.specs.declared.flags.TheConstants.{CARRY, ZERO, INTERRUPT, DECIMAL, OVERFLOW, NEGATIVE, PUSHED_BY_PROGRAM, PULLED}
use Rattle.cpu_alu.specs.Arithmetic.{bit_7, adc, sbc, compare, asl, lsr, rol, ror}
use Rattle.cpu_alu.specs.Flags.{has_flag, with_flag, with_n_z, with_n_z_c, with_n_v_z_c}

-- the use of the bus by an instruction
abbrev pub bus_use : Mnemonic → BusUse
bus_use Adc = Reads
bus_use And = Reads
bus_use Bit = Reads
bus_use Cmp = Reads
bus_use Cpx = Reads
bus_use Cpy = Reads
bus_use Eor = Reads
bus_use Lda = Reads
bus_use Ldx = Reads
bus_use Ldy = Reads
bus_use Ora = Reads
bus_use Sbc = Reads
bus_use Sta = Stores
bus_use Stx = Stores
bus_use Sty = Stores
bus_use Stz = Stores
bus_use Asl = Shifts
bus_use Lsr = Shifts
bus_use Rol = Shifts
bus_use Ror = Shifts
bus_use Inc = Modifies
bus_use Dec = Modifies
bus_use Trb = Modifies
bus_use Tsb = Modifies
bus_use Pha = Pushes
bus_use Php = Pushes
bus_use Phx = Pushes
bus_use Phy = Pushes
bus_use Pla = Pulls
bus_use Plp = Pulls
bus_use Plx = Pulls
bus_use Ply = Pulls
bus_use Bcc = Branches
bus_use Bcs = Branches
bus_use Beq = Branches
bus_use Bmi = Branches
bus_use Bne = Branches
bus_use Bpl = Branches
bus_use Bra = Branches
bus_use Bvc = Branches
bus_use Bvs = Branches
bus_use Jmp = Jumps
bus_use Jsr = Calls
bus_use Rts = Returns
bus_use Rti = Resumes
bus_use Brk = Breaks
bus_use _ = Implied

-- the byte that a store writes
abbrev pub stored_value : Mnemonic → Regs → ℕ
stored_value Sta r = r.a
stored_value Stx r = r.x
stored_value Sty r = r.y
stored_value _ r = 0

-- the byte that a push writes: flags have bits 4 and 5 set
abbrev pub pushed_value : Mnemonic → Regs → ℕ
pushed_value Pha r = r.a
pushed_value Phx r = r.x
pushed_value Phy r = r.y
pushed_value _ r = bit_or r.p PUSHED_BY_PROGRAM

-- true if a branch is taken
abbrev pub takes_branch : Mnemonic → Regs → Bool
takes_branch Bpl r = not (has_flag r.p NEGATIVE)
takes_branch Bmi r = has_flag r.p NEGATIVE
takes_branch Bvc r = not (has_flag r.p OVERFLOW)
takes_branch Bvs r = has_flag r.p OVERFLOW
takes_branch Bcc r = not (has_flag r.p CARRY)
takes_branch Bcs r = has_flag r.p CARRY
takes_branch Bne r = not (has_flag r.p ZERO)
takes_branch Beq r = has_flag r.p ZERO
takes_branch _ r = true

-- true for a sum or a difference in decimal mode
abbrev pub is_decimal : Mnemonic → Regs → Bool
is_decimal Adc r = has_flag r.p DECIMAL
is_decimal Sbc r = has_flag r.p DECIMAL
is_decimal _ r = false

-- a register loaded, with N and Z from it
abbrev pub with_a : Regs → ℕ → Regs
with_a r value = record r { a = value; p = with_n_z r.p value }

abbrev pub with_x : Regs → ℕ → Regs
with_x r value = record r { x = value; p = with_n_z r.p value }

abbrev pub with_y : Regs → ℕ → Regs
with_y r value = record r { y = value; p = with_n_z r.p value }

-- A becomes a sum or a difference, and its N, V, Z and C go into P
abbrev pub with_sum : Regs → Sum → Regs
with_sum r sum = record r { a = sum.value; p = with_n_v_z_c r.p sum }

-- N, Z and C from a comparison
abbrev pub after_compare : Regs → ℕ → ℕ → Regs
after_compare r value m = record r { p = with_n_z_c r.p (compare value m) }

-- p with Z from A AND m
abbrev pub with_masked_z : ℕ → ℕ → ℕ → ℕ
with_masked_z p a m = with_flag p ZERO (eqb (bit_and a m) 0)

-- BIT sets Z from A AND m; except for BIT #, N is bit 7 and V is bit 6 of m
abbrev pub bit_flags : Mode → ℕ → ℕ → ℕ → ℕ
bit_flags Imm p a m = with_masked_z p a m
bit_flags _ p a m = with_flag (with_flag (with_masked_z p a m) NEGATIVE (bit_7 m)) OVERFLOW (has_flag m 0x40)

-- the registers after an instruction that reads m
abbrev pub read_result : Part → Mnemonic → Mode → Regs → ℕ → Regs
read_result part Lda way r m = with_a r m
read_result part Ldx way r m = with_x r m
read_result part Ldy way r m = with_y r m
read_result part And way r m = with_a r (bit_and r.a m)
read_result part Ora way r m = with_a r (bit_or r.a m)
read_result part Eor way r m = with_a r (bit_xor r.a m)
read_result part Adc way r m = with_sum r (adc part (has_flag r.p DECIMAL) r.a m (has_flag r.p CARRY))
read_result part Sbc way r m = with_sum r (sbc part (has_flag r.p DECIMAL) r.a m (has_flag r.p CARRY))
read_result part Cmp way r m = after_compare r r.a m
read_result part Cpx way r m = after_compare r r.x m
read_result part Cpy way r m = after_compare r r.y m
read_result part Bit way r m = record r { p = bit_flags way r.p r.a m }
read_result part _ way r m = r

-- the byte that a modify instruction writes for m
abbrev pub modified_value : Mnemonic → Regs → ℕ → ℕ
modified_value Asl r m = (asl m).value
modified_value Lsr r m = (lsr m).value
modified_value Rol r m = (rol m (has_flag r.p CARRY)).value
modified_value Ror r m = (ror m (has_flag r.p CARRY)).value
modified_value Inc r m = (m + 1) % 256
modified_value Dec r m = (m + 255) % 256
modified_value Tsb r m = bit_or m r.a
modified_value Trb r m = bit_and m (255 - r.a)
modified_value _ r m = m

-- the flags after a modify instruction: TSB and TRB have Z from A AND m
abbrev pub modify_flags : Mnemonic → Regs → ℕ → ℕ
modify_flags Asl r m = with_n_z_c r.p (asl m)
modify_flags Lsr r m = with_n_z_c r.p (lsr m)
modify_flags Rol r m = with_n_z_c r.p (rol m (has_flag r.p CARRY))
modify_flags Ror r m = with_n_z_c r.p (ror m (has_flag r.p CARRY))
modify_flags Inc r m = with_n_z r.p ((m + 1) % 256)
modify_flags Dec r m = with_n_z r.p ((m + 255) % 256)
modify_flags _ r m = with_masked_z r.p r.a m

-- the registers after a modify instruction, on A or on the byte m of memory
abbrev pub modify_result : Mnemonic → Mode → Regs → ℕ → Regs
modify_result name Acc r m = record r { a = modified_value name r r.a; p = modify_flags name r r.a }
modify_result name _ r m = record r { p = modify_flags name r m }

-- the registers after an instruction without an operand
abbrev pub implied_result : Mnemonic → Regs → Regs
implied_result Clc r = record r { p = with_flag r.p CARRY false }
implied_result Cld r = record r { p = with_flag r.p DECIMAL false }
implied_result Cli r = record r { p = with_flag r.p INTERRUPT false }
implied_result Clv r = record r { p = with_flag r.p OVERFLOW false }
implied_result Sec r = record r { p = with_flag r.p CARRY true }
implied_result Sed r = record r { p = with_flag r.p DECIMAL true }
implied_result Sei r = record r { p = with_flag r.p INTERRUPT true }
implied_result Dex r = with_x r ((r.x + 255) % 256)
implied_result Dey r = with_y r ((r.y + 255) % 256)
implied_result Inx r = with_x r ((r.x + 1) % 256)
implied_result Iny r = with_y r ((r.y + 1) % 256)
implied_result Tax r = with_x r r.a
implied_result Tay r = with_y r r.a
implied_result Tsx r = with_x r r.s
implied_result Txa r = with_a r r.x
implied_result Tya r = with_a r r.y
implied_result Txs r = record r { s = r.x }
implied_result _ r = r

-- the registers, except S, after a pull of m: PLP ignores bits 4 and 5
abbrev pub pull_result : Mnemonic → Regs → ℕ → Regs
pull_result Pla r m = with_a r m
pull_result Plx r m = with_x r m
pull_result Ply r m = with_y r m
pull_result _ r m = record r { p = bit_and m PULLED }
