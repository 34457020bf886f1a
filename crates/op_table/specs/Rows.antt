-- The bytes and the cycles of each instruction, and the rows of both tables. The cycles are those
-- that every execution takes: MCS6500 Hardware Manual, summary of single cycle execution, and the
-- 65C02's data sheet.
use Rattle.std.specs.Prelude.{◌≡◌, ℕ, ◌<◌, ◌%◌, ◌==◌, ◌||◌, if◌then◌else◌, Option, Some, None, option_map, MatchOption}
use Rattle.op_table.specs.declared.names.Part.{Part}
use Rattle.op_table.specs.declared.names.Part.TheVariants.{Nmos, Cmos}
use Rattle.op_table.specs.declared.names.Mnemonic.{Mnemonic}
use Rattle.op_table.specs.declared.names.Mnemonic.TheVariants.{Asl, Bcc, Bcs, Beq, Bmi, Bne, Bpl, Bra, Brk, Bvc, Bvs, Dec, Inc, Jmp, Jsr, Lsr, Nop}
use Rattle.op_table.specs.declared.names.Mnemonic.TheVariants.{Pha, Php, Phx, Phy, Pla, Plp, Plx, Ply, Rol, Ror, Rti, Rts, Sta, Stx, Sty, Stz, Trb, Tsb}
use Rattle.op_table.specs.declared.names.Mode.{Mode}
use Rattle.op_table.specs.declared.names.Mode.TheVariants.{Imp, Acc, Imm, Zp, ZpX, ZpY, Abs, AbsX, AbsY, IndX, IndY, IndZp, Rel, Ind, IndAbsX, Spare}
use Rattle.op_table.specs.declared.rows.Row.{Row}
use Rattle.op_table.specs.Forms.{Form, forms, form_at}

-- the number of bytes of the opcode and its operand
abbrev pub bytes_of : Mode → ℕ
bytes_of Imp = 1
bytes_of Acc = 1
bytes_of Imm = 2
bytes_of Zp = 2
bytes_of ZpX = 2
bytes_of ZpY = 2
bytes_of Abs = 3
bytes_of AbsX = 3
bytes_of AbsY = 3
bytes_of IndX = 2
bytes_of IndY = 2
bytes_of IndZp = 2
bytes_of Rel = 2
bytes_of Ind = 3
bytes_of IndAbsX = 3
bytes_of Spare = 2

-- the use of an operand by an instruction
pub data Use : Type 0 where
  Reads : Use
  Stores : Use
  Shifts : Use
  Modifies : Use
  Pushes : Use
  Pulls : Use
  Branches : Use

-- An instruction without an operand counts as one that reads.
abbrev pub use_of : Mnemonic → Use
use_of Sta = Stores
use_of Stx = Stores
use_of Sty = Stores
use_of Stz = Stores
use_of Asl = Shifts
use_of Lsr = Shifts
use_of Rol = Shifts
use_of Ror = Shifts
use_of Inc = Modifies
use_of Dec = Modifies
use_of Trb = Modifies
use_of Tsb = Modifies
use_of Pha = Pushes
use_of Php = Pushes
use_of Phx = Pushes
use_of Phy = Pushes
use_of Pla = Pulls
use_of Plp = Pulls
use_of Plx = Pulls
use_of Ply = Pulls
use_of Bcc = Branches
use_of Bcs = Branches
use_of Beq = Branches
use_of Bmi = Branches
use_of Bne = Branches
use_of Bpl = Branches
use_of Bvc = Branches
use_of Bvs = Branches
use_of _ = Reads

-- The last case is implied, accumulator and immediate mode.
abbrev pub read_cycles : Mode → ℕ
read_cycles Zp = 3
read_cycles ZpX = 4
read_cycles ZpY = 4
read_cycles Abs = 4
read_cycles AbsX = 4
read_cycles AbsY = 4
read_cycles IndX = 6
read_cycles IndY = 5
read_cycles IndZp = 5
read_cycles _ = 2

-- An indexed store takes the same number of cycles with and without a page crossing.
abbrev pub store_cycles : Mode → ℕ
store_cycles AbsX = 5
store_cycles AbsY = 5
store_cycles IndY = 6
store_cycles way = read_cycles way

-- A modify instruction takes two cycles more than a read, and AbsX always has that of a page
-- crossing.
abbrev pub modify_cycles : Mode → ℕ
modify_cycles Zp = 5
modify_cycles ZpX = 6
modify_cycles Abs = 6
modify_cycles AbsX = 7
modify_cycles _ = 2

-- On the 65C02 an indexed shift takes one cycle less if no page is crossed.
abbrev pub shift_cycles : Part → Mode → ℕ
shift_cycles Cmos AbsX = 6
shift_cycles _ way = modify_cycles way

-- On the 65C02 an indirect jump takes one cycle more.
abbrev pub jump_cycles : Part → Mode → ℕ
jump_cycles _ Abs = 3
jump_cycles Nmos _ = 5
jump_cycles Cmos _ = 6

abbrev pub cycles_by : Part → Use → Mode → ℕ
cycles_by _ Reads way = read_cycles way
cycles_by _ Stores way = store_cycles way
cycles_by part Shifts way = shift_cycles part way
cycles_by _ Modifies way = modify_cycles way
cycles_by _ Pushes _ = 3
cycles_by _ Pulls _ = 4
cycles_by _ Branches _ = 2

-- one cycle for the opcode and one for each further access that is always made
abbrev pub cycles_of : Part → Mnemonic → Mode → ℕ
cycles_of _ Brk _ = 7
cycles_of _ Jsr _ = 6
cycles_of _ Rti _ = 6
cycles_of _ Rts _ = 6
cycles_of _ Bra _ = 3
cycles_of part Jmp way = jump_cycles part way
cycles_of part name way = cycles_by part (use_of name) way

-- the bytes and the cycles of an opcode of the 65C02 that does nothing; the first test is for a low
-- digit of 3, 7, B or F
abbrev pub spare : ℕ → ℕ × ℕ
spare op =
    if op % 4 == 3 then (1, 1) else
    if op == 0x44 then (2, 3) else
    if op == 0x54 || op == 0xD4 || op == 0xF4 then (2, 4) else
    if op == 0x5C then (3, 8) else
    if op == 0xDC || op == 0xFC then (3, 4) else
    (2, 2)

abbrev pub row_of : Part → Form → Row
row_of part f = record {
  mnemonic = f.mnemonic;
  mode = f.mode;
  bytes = bytes_of f.mode;
  cycles = cycles_of part f.mnemonic f.mode;
}

-- An opcode without a form does nothing.
abbrev pub row_or_spare : ℕ → Option Form → Row
row_or_spare op (Some f) = row_of Cmos f
row_or_spare op None = record { mnemonic = Nop; mode = Spare; bytes = (spare op).0; cycles = (spare op).1 }

unfoldable pub nmos_row : ℕ → Option Row
nmos_row op = option_map (row_of Nmos) (form_at (forms Nmos) op)

unfoldable pub cmos_row : ℕ → Row
cmos_row op = row_or_spare op (form_at (forms Cmos) op)

abbrev pub unless_spare : Row → Mode → Option Row
unless_spare r Spare = None
unless_spare r _ = Some r

-- the row of an opcode if it has a documented form
abbrev pub documented_row : Part → ℕ → Option Row
documented_row Nmos op = nmos_row op
documented_row Cmos op = unless_spare (cmos_row op) (cmos_row op).mode

-- op is the documented opcode of a mnemonic in a mode.
abbrev pub Names : Part → Mnemonic → Mode → ℕ → Type 0
Names part name way op =
    (op < 256) × MatchOption (documented_row part op) ⊥ (λ r. (r.mnemonic ≡ name) × (r.mode ≡ way))
