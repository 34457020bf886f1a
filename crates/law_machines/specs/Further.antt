-- The accesses of an instruction beyond the cycles of its row in the instruction table, by its
-- opcode, its operand and the registers. (MCS6500 Programming Manual, appendix B: one more if an
-- index crosses a page; one more for a branch that is taken, and two if its target is in another
-- page. W65C02S data sheet: also one more for a sum in decimal mode.)
use Rattle.std.specs.Prelude.{ℕ, ◌+◌, ◌-◌, ◌*◌, ◌/◌, ◌%◌, ◌==◌, ◌&&◌, ◌||◌, nat_lt, Bool, true, false, not, List, [], ◌∷◌, Option, if◌then◌else◌}
use Rattle.op_table.specs.declared.names.Part.{Part}
use Rattle.op_table.specs.declared.names.Part.TheVariants.{Nmos, Cmos}
use Rattle.cpu_alu.specs.declared.Regs.{Regs}
use Rattle.cpu_alu.specs.Flags.{has_flag}
use Rattle.cpu_core.specs.Accesses.{byte}

abbrev pub among : ℕ → List ℕ → Bool
among n [] = false
among n (k ∷ ks) = (n == k) || among n ks

-- The reads at abs,X: ADC AND CMP EOR LDA ORA SBC and LDY. On the 65C02 also BIT, and ASL LSR ROL
-- ROR, which take this cycle only if they cross a page.
abbrev pub by_x : Part → List ℕ
by_x Nmos = 0x7D ∷ 0x3D ∷ 0xDD ∷ 0x5D ∷ 0xBD ∷ 0x1D ∷ 0xFD ∷ 0xBC ∷ []
by_x Cmos = 0x7D ∷ 0x3D ∷ 0xDD ∷ 0x5D ∷ 0xBD ∷ 0x1D ∷ 0xFD ∷ 0xBC ∷ 0x3C ∷ 0x1E ∷ 0x5E ∷ 0x3E ∷ 0x7E ∷ []

-- the reads at abs,Y: ADC AND CMP EOR LDA ORA SBC and LDX
abbrev pub by_y : List ℕ
by_y = 0x79 ∷ 0x39 ∷ 0xD9 ∷ 0x59 ∷ 0xB9 ∷ 0x19 ∷ 0xF9 ∷ 0xBE ∷ []

-- the reads at (zp),Y: ADC AND CMP EOR LDA ORA SBC
abbrev pub by_pointer : List ℕ
by_pointer = 0x71 ∷ 0x31 ∷ 0xD1 ∷ 0x51 ∷ 0xB1 ∷ 0x11 ∷ 0xF1 ∷ []

-- ADC and SBC in each of their modes
abbrev pub sums : List ℕ
sums =
    0x69 ∷ 0x65 ∷ 0x75 ∷ 0x6D ∷ 0x7D ∷ 0x79 ∷ 0x61 ∷ 0x71 ∷ 0x72
    ∷ 0xE9 ∷ 0xE5 ∷ 0xF5 ∷ 0xED ∷ 0xFD ∷ 0xF9 ∷ 0xE1 ∷ 0xF1 ∷ 0xF2 ∷ []

-- Why an instruction may make further accesses.
pub data Cause : Type 0 where
  Never : Cause
  -- The index crosses a page.
  ByX : Cause
  ByY : Cause
  ByPointer : Cause
  -- The branch is taken if this flag of P has this value.
  Branch : ℕ → Bool → Cause
  -- BRA: its row has the cycle of the taken branch.
  Always : Cause

-- BPL BMI BVC BVS BCC BCS BNE BEQ, with N bit 7, V bit 6, Z bit 1 and C bit 0 of P; then BRA
abbrev pub cause_of_branch : ℕ → Cause
cause_of_branch op =
    if op == 0x10 then Branch 0x80 false else
    if op == 0x30 then Branch 0x80 true else
    if op == 0x50 then Branch 0x40 false else
    if op == 0x70 then Branch 0x40 true else
    if op == 0x90 then Branch 0x01 false else
    if op == 0xB0 then Branch 0x01 true else
    if op == 0xD0 then Branch 0x02 false else
    if op == 0xF0 then Branch 0x02 true else
    if op == 0x80 then Always else
    Never

abbrev pub cause : Part → ℕ → Cause
cause part op =
    if among op (by_x part) then ByX else
    if among op by_y then ByY else
    if among op by_pointer then ByPointer else
    cause_of_branch op

-- one if the sum is in another page than the base
abbrev pub crossing : ℕ → ℕ → ℕ
crossing base index = if (base + index) / 256 == base / 256 then 0 else 1

-- the address after a branch at pc, and its target: the byte counts from there and is signed
abbrev pub next : ℕ → ℕ
next pc = (pc + 2) % 65536

abbrev pub destination : ℕ → ℕ → ℕ
destination pc by = (if nat_lt by 128 then next pc + by else next pc + 65536 + by - 256) % 65536

-- one if the target is in another page than the next instruction
abbrev pub away : ℕ → ℕ → ℕ
away pc by = if destination pc by / 256 == next pc / 256 then 0 else 1

-- Byte k is the one read in cycle k. The opcode is byte 0, and its operand begins at byte 1; bytes
-- 2 and 3 of (zp),Y are the pointer.
abbrev pub amount : Cause → Regs → List (Option ℕ) → ℕ
amount Never r seen = 0
amount ByX r seen = crossing (byte seen 1 + 256 * byte seen 2) r.x
amount ByY r seen = crossing (byte seen 1 + 256 * byte seen 2) r.y
amount ByPointer r seen = crossing (byte seen 2 + 256 * byte seen 3) r.y
amount (Branch flag set) r seen =
    if (if set then has_flag r.p flag else not (has_flag r.p flag)) then 1 + away r.pc (byte seen 1) else 0
amount Always r seen = away r.pc (byte seen 1)

-- one for a sum of the 65C02 in decimal mode, which is bit 3 of P
abbrev pub in_decimal : Part → ℕ → Regs → ℕ
in_decimal Nmos op r = 0
in_decimal Cmos op r = if among op sums && has_flag r.p 0x08 then 1 else 0

-- the accesses of an instruction beyond its row's cycles
abbrev pub further : Part → ℕ → Regs → List (Option ℕ) → ℕ
further part op r seen = amount (cause part op) r seen + in_decimal part op r
