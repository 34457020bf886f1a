-- The names of the mnemonics, and the equality of mnemonics and of modes.
use Rattle.std.specs.Prelude.{ℕ, List, [], ◌∷◌, map, Bool, Option, find, codes, nat_eq}
use Rattle.std.specs.Char.{to_ascii_uppercase}
use Rattle.std.specs.Cmp.Lexicographic.{pointwise}
use denote.Enum.Bare.{sameb}
use Rattle.op_table.specs.contracts.names.Mnemonic.{the_type as mnemonics}
use Rattle.op_table.specs.contracts.names.Mode.{the_type as modes}
use Rattle.op_table.specs.declared.names.Mnemonic.{Mnemonic}
use Rattle.op_table.specs.declared.names.Mnemonic.TheVariants.{Adc, And, Asl, Bcc, Bcs, Beq, Bit, Bmi, Bne, Bpl, Bra, Brk, Bvc, Bvs, Clc, Cld}
use Rattle.op_table.specs.declared.names.Mnemonic.TheVariants.{Cli, Clv, Cmp, Cpx, Cpy, Dec, Dex, Dey, Eor, Inc, Inx, Iny, Jmp, Jsr, Lda, Ldx}
use Rattle.op_table.specs.declared.names.Mnemonic.TheVariants.{Ldy, Lsr, Nop, Ora, Pha, Php, Phx, Phy, Pla, Plp, Plx, Ply, Rol, Ror, Rti, Rts}
use Rattle.op_table.specs.declared.names.Mnemonic.TheVariants.{Sbc, Sec, Sed, Sei, Sta, Stx, Sty, Stz, Tax, Tay, Trb, Tsb, Tsx, Txa, Txs, Tya}
use Rattle.op_table.specs.declared.names.Mode.{Mode}

-- the three letters of a mnemonic
abbrev pub name_of : Mnemonic → List ℕ
name_of Adc = codes "ADC"
name_of And = codes "AND"
name_of Asl = codes "ASL"
name_of Bcc = codes "BCC"
name_of Bcs = codes "BCS"
name_of Beq = codes "BEQ"
name_of Bit = codes "BIT"
name_of Bmi = codes "BMI"
name_of Bne = codes "BNE"
name_of Bpl = codes "BPL"
name_of Bra = codes "BRA"
name_of Brk = codes "BRK"
name_of Bvc = codes "BVC"
name_of Bvs = codes "BVS"
name_of Clc = codes "CLC"
name_of Cld = codes "CLD"
name_of Cli = codes "CLI"
name_of Clv = codes "CLV"
name_of Cmp = codes "CMP"
name_of Cpx = codes "CPX"
name_of Cpy = codes "CPY"
name_of Dec = codes "DEC"
name_of Dex = codes "DEX"
name_of Dey = codes "DEY"
name_of Eor = codes "EOR"
name_of Inc = codes "INC"
name_of Inx = codes "INX"
name_of Iny = codes "INY"
name_of Jmp = codes "JMP"
name_of Jsr = codes "JSR"
name_of Lda = codes "LDA"
name_of Ldx = codes "LDX"
name_of Ldy = codes "LDY"
name_of Lsr = codes "LSR"
name_of Nop = codes "NOP"
name_of Ora = codes "ORA"
name_of Pha = codes "PHA"
name_of Php = codes "PHP"
name_of Phx = codes "PHX"
name_of Phy = codes "PHY"
name_of Pla = codes "PLA"
name_of Plp = codes "PLP"
name_of Plx = codes "PLX"
name_of Ply = codes "PLY"
name_of Rol = codes "ROL"
name_of Ror = codes "ROR"
name_of Rti = codes "RTI"
name_of Rts = codes "RTS"
name_of Sbc = codes "SBC"
name_of Sec = codes "SEC"
name_of Sed = codes "SED"
name_of Sei = codes "SEI"
name_of Sta = codes "STA"
name_of Stx = codes "STX"
name_of Sty = codes "STY"
name_of Stz = codes "STZ"
name_of Tax = codes "TAX"
name_of Tay = codes "TAY"
name_of Trb = codes "TRB"
name_of Tsb = codes "TSB"
name_of Tsx = codes "TSX"
name_of Txa = codes "TXA"
name_of Txs = codes "TXS"
name_of Tya = codes "TYA"

abbrev pub all_mnemonics : List Mnemonic
all_mnemonics =
    Adc ∷ And ∷ Asl ∷ Bcc ∷ Bcs ∷ Beq ∷ Bit ∷ Bmi ∷ Bne ∷ Bpl ∷ Bra ∷ Brk ∷ Bvc ∷ Bvs ∷ Clc ∷ Cld ∷ Cli ∷
    Clv ∷ Cmp ∷ Cpx ∷ Cpy ∷ Dec ∷ Dex ∷ Dey ∷ Eor ∷ Inc ∷ Inx ∷ Iny ∷ Jmp ∷ Jsr ∷ Lda ∷ Ldx ∷ Ldy ∷ Lsr ∷
    Nop ∷ Ora ∷ Pha ∷ Php ∷ Phx ∷ Phy ∷ Pla ∷ Plp ∷ Plx ∷ Ply ∷ Rol ∷ Ror ∷ Rti ∷ Rts ∷ Sbc ∷ Sec ∷ Sed ∷
    Sei ∷ Sta ∷ Stx ∷ Sty ∷ Stz ∷ Tax ∷ Tay ∷ Trb ∷ Tsb ∷ Tsx ∷ Txa ∷ Txs ∷ Tya ∷ []

-- the tests of `==`
abbrev pub same_mnemonic : Mnemonic → Mnemonic → Bool
same_mnemonic = sameb mnemonics

abbrev pub same_mode : Mode → Mode → Bool
same_mode = sameb modes

-- the mnemonic with a name, in upper or lower case
unfoldable pub mnemonic_of : List ℕ → Option Mnemonic
mnemonic_of text = find (λ name. pointwise nat_eq (map to_ascii_uppercase text) (name_of name)) all_mnemonics
