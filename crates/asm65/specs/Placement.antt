-- The placement of lines: the form that an instruction takes, and the address of each line.
use Rattle.std.specs.Prelude.{ℕ, ◌+◌, ◌*◌, ◌&&◌, ◌||◌, nat_lt, Bool, true, false, List, [], ◌∷◌, ◌++◌, length, Option, Some, None, is_some, is_none, option_to_list, if◌then◌else◌}
use Rattle.std.specs.List.{list_any}
use Rattle.std.specs.Str.{bytes_eq}
use Rattle.op_table.specs.declared.Part.{Part}
use Rattle.op_table.specs.declared.Mnemonic.{Mnemonic}
use Rattle.op_table.specs.declared.Mnemonic.TheVariants.{Jmp}
use Rattle.op_table.specs.declared.Mode.{Mode}
use Rattle.op_table.specs.declared.Mode.TheVariants.{Imp, Acc, Imm, Zp, ZpX, ZpY, Abs, AbsX, AbsY, IndX, IndY, IndZp, Rel, Ind, IndAbsX}
use Rattle.op_table.specs.Names.{same_mnemonic}
use Rattle.op_table.specs.Forms.{find_form}
use Rattle.op_table.specs.Rows.{bytes_of}
use Rattle.asm65.specs.declared.AsmError.{AsmError}
use Rattle.asm65.specs.declared.AsmError.TheVariants.{Syntax, NoSuchForm, Repeated, OutOfRange, TooLong}
use Rattle.asm_lines.specs.Syntax.{Base, number, label, beyond, Portion, whole, low_byte, high_byte, Value, Operand, nothing, accumulator}
use Rattle.asm_lines.specs.Syntax.{immediate, direct, direct_x, direct_y, indirect, indirect_x, indirect_y, Statement, instruction, org, bytes, words, Line}

abbrev pub is_byte_base : Base → Bool
is_byte_base (number n) = n.byte_sized
is_byte_base (label name) = false
is_byte_base (beyond name n) = false

abbrev pub is_byte_in : Portion → Base → Bool
is_byte_in whole base = is_byte_base base
is_byte_in low_byte base = true
is_byte_in high_byte base = true

-- A value is byte-sized if it begins with `<` or `>` or is a byte-sized number. Others are
-- word-sized.
abbrev pub is_byte : Value → Bool
is_byte v = is_byte_in v.portion v.base

-- true if the part's table has the form
abbrev pub has_form : Part → Mnemonic → Mode → Bool
has_form part name way = is_some (find_form part name way)

abbrev pub if_formed : Part → Mnemonic → Mode → Option Mode
if_formed part name way = if has_form part name way then Some way else None

-- the zero-page form if the value is byte-sized and the table has that form; otherwise the absolute
-- form
abbrev pub shorter : Part → Mnemonic → Value → Mode → Mode → Option Mode
shorter part name v zero_page absolute =
    if is_byte v && has_form part name zero_page then Some zero_page else if_formed part name absolute

-- with JMP the absolute form; with others the zero-page form of a byte-sized value
abbrev pub mode_in_parentheses : Part → Mnemonic → Value → Mode → Mode → Option Mode
mode_in_parentheses part name v zero_page absolute =
    if same_mnemonic name Jmp then if_formed part name absolute
    else if is_byte v then if_formed part name zero_page
    else None

-- The mode of an instruction, or None if the part's table lacks the form. A branch takes its target
-- as `E`.
abbrev pub mode_of : Part → Mnemonic → Operand → Option Mode
mode_of part name nothing = if_formed part name Imp
mode_of part name accumulator = if_formed part name Acc
mode_of part name (immediate v) = if_formed part name Imm
mode_of part name (direct v) = if has_form part name Rel then Some Rel else shorter part name v Zp Abs
mode_of part name (direct_x v) = shorter part name v ZpX AbsX
mode_of part name (direct_y v) = shorter part name v ZpY AbsY
mode_of part name (indirect v) = mode_in_parentheses part name v IndZp Ind
mode_of part name (indirect_x v) = mode_in_parentheses part name v IndX IndAbsX
mode_of part name (indirect_y v) = if is_byte v then if_formed part name IndY else None

abbrev pub mode_bytes : Option Mode → ℕ
mode_bytes None = 0
mode_bytes (Some way) = bytes_of way

-- the number of bytes that a statement makes, except `org`
abbrev pub size_of : Part → Statement → ℕ
size_of part (instruction name operand) = mode_bytes (mode_of part name operand)
size_of part (org n) = 0
size_of part (bytes values) = length values
size_of part (words values) = 2 * length values

abbrev pub after_statement : Part → ℕ → Option Statement → ℕ
after_statement part at None = at
after_statement part at (Some (org n)) = n.value
after_statement part at (Some (instruction name operand)) = at + size_of part (instruction name operand)
after_statement part at (Some (bytes values)) = at + size_of part (bytes values)
after_statement part at (Some (words values)) = at + size_of part (words values)

-- the address after a line
abbrev pub after_line : Part → ℕ → Option Line → ℕ
after_line part at None = at
after_line part at (Some line) = after_statement part at line.statement

-- the origin that the first statement gives: that of `org`, otherwise 0
abbrev pub statement_origin : Statement → ℕ
statement_origin (org n) = n.value
statement_origin (instruction name operand) = 0
statement_origin (bytes values) = 0
statement_origin (words values) = 0

abbrev pub first_origin : Option Statement → ℕ → ℕ
first_origin None later = later
first_origin (Some s) later = statement_origin s

-- The origin: that of the first statement if it is `org`, otherwise 0.
abbrev pub origin_of : List (Option Line) → ℕ
origin_of [] = 0
origin_of (None ∷ lines) = origin_of lines
origin_of (Some line ∷ lines) = first_origin line.statement (origin_of lines)

-- A line and the address at its beginning.
pub record Placed : Type 0 where
  pub address : ℕ
  pub line : Option Line

abbrev pub placed_from : Part → ℕ → List (Option Line) → List Placed
placed_from part at [] = []
placed_from part at (line ∷ lines) = record { address = at; line = line } ∷ placed_from part (after_line part at line) lines

-- The placement of lines: until the first statement the address is the origin.
abbrev pub placement : Part → List (Option Line) → List Placed
placement part lines = placed_from part (origin_of lines) lines

-- the numbers in a statement

abbrev pub base_numbers : Base → List ℕ
base_numbers (number n) = n.value ∷ []
base_numbers (label name) = []
base_numbers (beyond name n) = n.value ∷ []

abbrev pub values_numbers : List Value → List ℕ
values_numbers [] = []
values_numbers (v ∷ values) = base_numbers v.base ++ values_numbers values

-- the values of an operand
abbrev pub operand_values : Operand → List Value
operand_values nothing = []
operand_values accumulator = []
operand_values (immediate v) = v ∷ []
operand_values (direct v) = v ∷ []
operand_values (direct_x v) = v ∷ []
operand_values (direct_y v) = v ∷ []
operand_values (indirect v) = v ∷ []
operand_values (indirect_x v) = v ∷ []
operand_values (indirect_y v) = v ∷ []

abbrev pub statement_numbers : Statement → List ℕ
statement_numbers (instruction name operand) = values_numbers (operand_values operand)
statement_numbers (org n) = n.value ∷ []
statement_numbers (bytes values) = values_numbers values
statement_numbers (words values) = values_numbers values

abbrev pub has_no_form : Part → Statement → Bool
has_no_form part (instruction name operand) = is_none (mode_of part name operand)
has_no_form part (org n) = false
has_no_form part (bytes values) = false
has_no_form part (words values) = false

-- true for an `org` that goes back
abbrev pub goes_back : ℕ → Statement → Bool
goes_back at (org n) = nat_lt n.value at
goes_back at (instruction name operand) = false
goes_back at (bytes values) = false
goes_back at (words values) = false

abbrev pub is_among : List (List ℕ) → List ℕ → Bool
is_among names name = list_any (bytes_eq name) names

-- the label of a line, if it has one
abbrev pub line_names : Option Line → List (List ℕ)
line_names None = []
line_names (Some line) = option_to_list line.label

-- the given error if the test holds, otherwise the other
abbrev pub or_else : Bool → AsmError → Option AsmError → Option AsmError
or_else holds error other = if holds then Some error else other

abbrev pub formless : Part → Option Statement → Bool
formless part None = false
formless part (Some s) = has_no_form part s

abbrev pub is_past : ℕ → Option Statement → Bool
is_past at None = false
is_past at (Some s) = goes_back at s || list_any (λ n. nat_lt 65535 n) (statement_numbers s)

abbrev pub is_long : Part → ℕ → Option Statement → Bool
is_long part at None = false
is_long part at (Some s) = nat_lt 65536 (at + size_of part s)

-- The fault that the first pass finds in a line after lines with the labels names: the first in
-- this order.
abbrev pub first_fault : Part → ℕ → List (List ℕ) → ℕ → Option Line → Option AsmError
first_fault part row names at None = Some (Syntax row)
first_fault part row names at (Some line) =
    or_else (formless part line.statement) (NoSuchForm row)
    (or_else (list_any (is_among names) (option_to_list line.label)) (Repeated row)
    (or_else (is_past at line.statement) (OutOfRange row)
    (or_else (is_long part at line.statement) (TooLong row) None)))

abbrev pub or_later : Option AsmError → Option AsmError → Option AsmError
or_later (Some e) later = Some e
or_later None later = later

-- The first pass over lines, of which the first has the number row: the fault of the first line
-- with one.
abbrev pub first_pass : Part → ℕ → List (List ℕ) → List Placed → Option AsmError
first_pass part row names [] = None
first_pass part row names (p ∷ placed) =
    or_later (first_fault part row names p.address p.line) (first_pass part (row + 1) (names ++ line_names p.line) placed)
