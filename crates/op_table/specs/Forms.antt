-- The documented instructions of both parts, line by line as the MCS6500 Programming Manual and the
-- 65C02's data sheet list them.
use Rattle.std.specs.Prelude.{◌≡◌, ℕ, nat_lt, List, [], ◌∷◌, ◌++◌, if◌then◌else◌, ◌==◌, Option, option_map, find, filter, Any}
use Rattle.op_table.specs.declared.names.Part.{Part}
use Rattle.op_table.specs.declared.names.Part.TheVariants.{Nmos, Cmos}
use Rattle.op_table.specs.declared.names.Mnemonic.{Mnemonic}
use Rattle.op_table.specs.declared.names.Mnemonic.TheVariants.{Adc, And, Asl, Bcc, Bcs, Beq, Bit, Bmi, Bne, Bpl, Bra, Brk, Bvc, Bvs, Clc, Cld}
use Rattle.op_table.specs.declared.names.Mnemonic.TheVariants.{Cli, Clv, Cmp, Cpx, Cpy, Dec, Dex, Dey, Eor, Inc, Inx, Iny, Jmp, Jsr, Lda, Ldx}
use Rattle.op_table.specs.declared.names.Mnemonic.TheVariants.{Ldy, Lsr, Nop, Ora, Pha, Php, Phx, Phy, Pla, Plp, Plx, Ply, Rol, Ror, Rti, Rts}
use Rattle.op_table.specs.declared.names.Mnemonic.TheVariants.{Sbc, Sec, Sed, Sei, Sta, Stx, Sty, Stz, Tax, Tay, Trb, Tsb, Tsx, Txa, Txs, Tya}
use Rattle.op_table.specs.declared.names.Mode.{Mode}
use Rattle.op_table.specs.declared.names.Mode.TheVariants.{Imp, Acc, Imm, Zp, ZpX, ZpY, Abs, AbsX, AbsY, IndX, IndY, IndZp, Rel, Ind, IndAbsX}
use Rattle.op_table.specs.Names.{same_mnemonic, same_mode}

-- an instruction in one of its modes
pub record Form : Type 0 where
  pub mnemonic : Mnemonic
  pub mode : Mode
  pub opcode : ℕ

-- the entry in place of an opcode if a form doesn't exist
abbrev pub none : ℕ
none = 256

abbrev pub form : Mnemonic → Mode → ℕ → List Form
form name way op = if nat_lt op 256 then record { mnemonic = name; mode = way; opcode = op } ∷ [] else []

-- the columns # zp zp,X abs abs,X abs,Y (zp,X) (zp),Y
abbrev pub line : Mnemonic → ℕ → ℕ → ℕ → ℕ → ℕ → ℕ → ℕ → ℕ → List Form
line name imm zp zpx abs absx absy indx indy =
    form name Imm imm
    ++ form name Zp zp
    ++ form name ZpX zpx
    ++ form name Abs abs
    ++ form name AbsX absx
    ++ form name AbsY absy
    ++ form name IndX indx
    ++ form name IndY indy

-- the columns A zp zp,X abs abs,X
abbrev pub shift : Mnemonic → ℕ → ℕ → ℕ → ℕ → ℕ → List Form
shift name acc zp zpx abs absx =
    form name Acc acc ++ form name Zp zp ++ form name ZpX zpx ++ form name Abs abs ++ form name AbsX absx

-- the 151 forms of the NMOS 6502
abbrev pub nmos_forms : List Form
nmos_forms =
    []
    ++ line Adc 0x69 0x65 0x75 0x6D 0x7D 0x79 0x61 0x71
    ++ line And 0x29 0x25 0x35 0x2D 0x3D 0x39 0x21 0x31
    ++ line Cmp 0xC9 0xC5 0xD5 0xCD 0xDD 0xD9 0xC1 0xD1
    ++ line Eor 0x49 0x45 0x55 0x4D 0x5D 0x59 0x41 0x51
    ++ line Lda 0xA9 0xA5 0xB5 0xAD 0xBD 0xB9 0xA1 0xB1
    ++ line Ora 0x09 0x05 0x15 0x0D 0x1D 0x19 0x01 0x11
    ++ line Sbc 0xE9 0xE5 0xF5 0xED 0xFD 0xF9 0xE1 0xF1
    ++ line Sta none 0x85 0x95 0x8D 0x9D 0x99 0x81 0x91
    ++ line Ldx 0xA2 0xA6 none 0xAE none 0xBE none none
    ++ line Ldy 0xA0 0xA4 0xB4 0xAC 0xBC none none none
    ++ line Stx none 0x86 none 0x8E none none none none
    ++ line Sty none 0x84 0x94 0x8C none none none none
    ++ line Cpx 0xE0 0xE4 none 0xEC none none none none
    ++ line Cpy 0xC0 0xC4 none 0xCC none none none none
    ++ line Bit none 0x24 none 0x2C none none none none
    ++ form Ldx ZpY 0xB6 ++ form Stx ZpY 0x96
    ++ shift Asl 0x0A 0x06 0x16 0x0E 0x1E
    ++ shift Lsr 0x4A 0x46 0x56 0x4E 0x5E
    ++ shift Rol 0x2A 0x26 0x36 0x2E 0x3E
    ++ shift Ror 0x6A 0x66 0x76 0x6E 0x7E
    ++ shift Inc none 0xE6 0xF6 0xEE 0xFE
    ++ shift Dec none 0xC6 0xD6 0xCE 0xDE
    ++ form Brk Imp 0x00 ++ form Clc Imp 0x18 ++ form Cld Imp 0xD8 ++ form Cli Imp 0x58
    ++ form Clv Imp 0xB8 ++ form Dex Imp 0xCA ++ form Dey Imp 0x88 ++ form Inx Imp 0xE8
    ++ form Iny Imp 0xC8 ++ form Nop Imp 0xEA ++ form Pha Imp 0x48 ++ form Php Imp 0x08
    ++ form Pla Imp 0x68 ++ form Plp Imp 0x28 ++ form Rti Imp 0x40 ++ form Rts Imp 0x60
    ++ form Sec Imp 0x38 ++ form Sed Imp 0xF8 ++ form Sei Imp 0x78 ++ form Tax Imp 0xAA
    ++ form Tay Imp 0xA8 ++ form Tsx Imp 0xBA ++ form Txa Imp 0x8A ++ form Txs Imp 0x9A
    ++ form Tya Imp 0x98
    ++ form Bpl Rel 0x10 ++ form Bmi Rel 0x30 ++ form Bvc Rel 0x50 ++ form Bvs Rel 0x70
    ++ form Bcc Rel 0x90 ++ form Bcs Rel 0xB0 ++ form Bne Rel 0xD0 ++ form Beq Rel 0xF0
    ++ form Jmp Abs 0x4C ++ form Jmp Ind 0x6C ++ form Jsr Abs 0x20

-- the 27 forms that the 65C02 adds
abbrev pub added_forms : List Form
added_forms =
    []
    ++ form Bra Rel 0x80
    ++ form Phx Imp 0xDA ++ form Phy Imp 0x5A ++ form Plx Imp 0xFA ++ form Ply Imp 0x7A
    ++ form Stz Zp 0x64 ++ form Stz ZpX 0x74 ++ form Stz Abs 0x9C ++ form Stz AbsX 0x9E
    ++ form Trb Zp 0x14 ++ form Trb Abs 0x1C ++ form Tsb Zp 0x04 ++ form Tsb Abs 0x0C
    ++ form Ora IndZp 0x12 ++ form And IndZp 0x32 ++ form Eor IndZp 0x52 ++ form Adc IndZp 0x72
    ++ form Sta IndZp 0x92 ++ form Lda IndZp 0xB2 ++ form Cmp IndZp 0xD2 ++ form Sbc IndZp 0xF2
    ++ form Inc Acc 0x1A ++ form Dec Acc 0x3A
    ++ form Bit Imm 0x89 ++ form Bit ZpX 0x34 ++ form Bit AbsX 0x3C
    ++ form Jmp IndAbsX 0x7C

abbrev pub forms : Part → List Form
forms Nmos = nmos_forms
forms Cmos = nmos_forms ++ added_forms

-- IsDocumented part op holds if a documented instruction has the opcode op.
unfoldable pub IsDocumented : Part → ℕ → Type 0
IsDocumented part op = Any (λ f. f.opcode ≡ op) (forms part)

-- the form of an opcode
abbrev pub form_at : List Form → ℕ → Option Form
form_at fs op = find (λ f. f.opcode == op) fs

-- the forms of one mnemonic
abbrev pub forms_of : Part → Mnemonic → List Form
forms_of part name = filter (λ f. same_mnemonic f.mnemonic name) (forms part)

-- the opcode of a mnemonic in a mode, if the part has that form
unfoldable pub find_form : Part → Mnemonic → Mode → Option ℕ
find_form part name way = option_map (λ f. f.opcode) (find (λ f. same_mode f.mode way) (forms_of part name))
