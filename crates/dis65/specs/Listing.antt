-- The text of a disassembly.
use Rattle.std.specs.Prelude.{ℕ, zero, suc, ◌+◌, ◌-◌, ◌*◌, ◌%◌, nat_lt, nat_le, List, [], ◌∷◌, ◌++◌, length, slice_index, Option, Some, None, if◌then◌else◌, codes}
use Rattle.digits.specs.Hexadecimal.{hex_digits}
use Rattle.op_table.specs.declared.Part.{Part}
use Rattle.op_table.specs.declared.Mode.{Mode}
use Rattle.op_table.specs.declared.Mode.TheVariants.{Imp, Acc, Imm, Zp, ZpX, ZpY, Abs, AbsX, AbsY, IndX, IndY, IndZp, Rel, Ind, IndAbsX, Spare}
use Rattle.op_table.specs.Names.{name_of}
use Rattle.op_table.specs.Forms.{Form, forms, form_at}
use Rattle.op_table.specs.Rows.{bytes_of}

-- the target of a branch at the address at with the operand far
abbrev pub target : ℕ → ℕ → ℕ
target at far = (at + 2 + (if nat_lt far 128 then far else 65280 + far)) % 65536

-- The operand of an instruction at an address, by its mode and the bytes after its opcode.
abbrev pub operand_text : ℕ → Mode → ℕ → ℕ → List ℕ
operand_text at Imp low high = []
operand_text at Acc low high = codes " A"
operand_text at Imm low high = codes " #&" ++ hex_digits 2 low
operand_text at Zp low high = codes " &" ++ hex_digits 2 low
operand_text at ZpX low high = codes " &" ++ hex_digits 2 low ++ codes ",X"
operand_text at ZpY low high = codes " &" ++ hex_digits 2 low ++ codes ",Y"
operand_text at Abs low high = codes " &" ++ hex_digits 4 (low + 256 * high)
operand_text at AbsX low high = codes " &" ++ hex_digits 4 (low + 256 * high) ++ codes ",X"
operand_text at AbsY low high = codes " &" ++ hex_digits 4 (low + 256 * high) ++ codes ",Y"
operand_text at IndX low high = codes " (&" ++ hex_digits 2 low ++ codes ",X)"
operand_text at IndY low high = codes " (&" ++ hex_digits 2 low ++ codes "),Y"
operand_text at IndZp low high = codes " (&" ++ hex_digits 2 low ++ codes ")"
operand_text at Rel low high = codes " &" ++ hex_digits 4 (target at low)
operand_text at Ind low high = codes " (&" ++ hex_digits 4 (low + 256 * high) ++ codes ")"
operand_text at IndAbsX low high = codes " (&" ++ hex_digits 4 (low + 256 * high) ++ codes ",X)"
operand_text at Spare low high = []

-- the form, if all its bytes are available
abbrev pub if_whole : ℕ → Option Form → Option Form
if_whole available None = None
if_whole available (Some f) = if nat_le (bytes_of f.mode) available then Some f else None

-- The documented form of an opcode whose bytes do not pass the end.
abbrev pub form_here : Part → ℕ → List ℕ → Option Form
form_here part op behind = if_whole (length behind + 1) (form_at (forms part) op)

-- the line of an instruction, or of a byte without one
abbrev pub line_text : ℕ → ℕ → List ℕ → Option Form → List ℕ
line_text at op behind None = codes "byte &" ++ hex_digits 2 op ++ codes "\n"
line_text at op behind (Some f) = name_of f.mnemonic ++ operand_text at f.mode (slice_index behind 0) (slice_index behind 1) ++ codes "\n"

-- the number of bytes that a line takes after its first
abbrev pub bytes_behind : Option Form → ℕ
bytes_behind None = 0
bytes_behind (Some f) = bytes_of f.mode - 1

-- The lines of bytes from an address on; the first skip bytes belong to the line before.
abbrev pub lines_from : Part → ℕ → ℕ → List ℕ → List ℕ
lines_from part at skip [] = []
lines_from part at (suc skip) (b ∷ bytes) = lines_from part (at + 1) skip bytes
lines_from part at zero (op ∷ bytes) =
    line_text at op bytes (form_here part op bytes) ++ lines_from part (at + 1) (bytes_behind (form_here part op bytes)) bytes

-- The text of bytes from an origin on.
unfoldable pub decode : Part → List ℕ → ℕ → List ℕ
decode part bytes origin = codes "org &" ++ hex_digits 4 origin ++ codes "\n" ++ lines_from part origin 0 bytes
