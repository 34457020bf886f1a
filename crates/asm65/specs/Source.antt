-- The bytes that a source text means, or its first offending line.
use Rattle.std.specs.Prelude.{ℕ, ◌+◌, ◌-◌, ◌/◌, ◌%◌, ◌||◌, nat_lt, nat_le, Bool, true, false, List, []}
use Rattle.std.specs.Prelude.{◌∷◌, ◌++◌, map, replicate, Option, Some, None, is_none, option_map, unwrap_or, Result, Ok, Err, if◌then◌else◌}
use Rattle.std.specs.List.{list_any, concat}
use Rattle.std.specs.Str.{bytes_eq}
use Rattle.op_table.specs.declared.Part.{Part}
use Rattle.op_table.specs.declared.Mnemonic.{Mnemonic}
use Rattle.op_table.specs.declared.Mode.{Mode}
use Rattle.op_table.specs.declared.Mode.TheVariants.{Imm, Abs, AbsX, AbsY, Rel, Ind, IndAbsX}
use Rattle.op_table.specs.Forms.{find_form}
use Rattle.asm65.specs.declared.AsmError.{AsmError}
use Rattle.asm65.specs.declared.AsmError.TheVariants.{UnknownLabel, OutOfRange}
use Rattle.asm_lines.specs.Syntax.{Base, number, label, beyond, Portion, whole, low_byte, high_byte, Value, Operand, Statement, instruction, org, bytes, words, Line, parsed_text}
use Rattle.asm65.specs.Placement.{Placed, placement, origin_of, mode_of, operand_values, first_pass, or_later, or_else}

-- labels with their values
abbrev pub Labels : Type 0
Labels = List (List ℕ × ℕ)

abbrev pub label_with : ℕ → Option (List ℕ) → Labels
label_with at None = []
label_with at (Some name) = (name, at) ∷ []

abbrev pub line_labels : ℕ → Option Line → Labels
line_labels at None = []
line_labels at (Some line) = label_with at line.label

-- The labels of a placement. The value of each is the address at the beginning of its line.
abbrev pub labels_of : List Placed → Labels
labels_of [] = []
labels_of (p ∷ placed) = line_labels p.address p.line ++ labels_of placed

abbrev pub value_of_label : Labels → List ℕ → Option ℕ
value_of_label [] name = None
value_of_label (l ∷ labels) name = if bytes_eq name l.0 then Some l.1 else value_of_label labels name

-- the base of a value, if its label is known
abbrev pub base_value : Labels → Base → Option ℕ
base_value labels (number n) = Some n.value
base_value labels (label name) = value_of_label labels name
base_value labels (beyond name n) = option_map (λ at. at + n.value) (value_of_label labels name)

abbrev pub portion_in : Portion → ℕ → ℕ
portion_in whole n = n
portion_in low_byte n = n % 256
portion_in high_byte n = n / 256

-- the number of a value; 0 if its label is unknown
abbrev pub value_in : Labels → Value → ℕ
value_in labels v = portion_in v.portion (unwrap_or (base_value labels v.base) 0)

abbrev pub is_unknown : Labels → Value → Bool
is_unknown labels v = is_none (base_value labels v.base)

-- A base must be below 65,536 before `<` or `>` is applied, and the value below a limit.
abbrev pub is_out : Labels → ℕ → Value → Bool
is_out labels limit v = nat_le 65536 (unwrap_or (base_value labels v.base) 0) || nat_le limit (value_in labels v)

-- the distance of a branch at the address at, modulo 65,536
abbrev pub distance : ℕ → ℕ → ℕ
distance at target = (65536 + target - (at + 2) % 65536) % 65536

-- from -128 to 127
abbrev pub is_near : ℕ → Bool
is_near d = nat_lt d 128 || nat_le 65408 d

-- true if a value of an operand is out of range for the mode that it takes
abbrev pub operand_out : Labels → ℕ → Option Mode → Operand → Bool
operand_out labels at (Some Imm) operand = list_any (is_out labels 256) (operand_values operand)
operand_out labels at (Some Rel) operand =
    list_any (is_out labels 65536) (operand_values operand) || list_any (λ v. if is_near (distance at (value_in labels v)) then false else true) (operand_values operand)
operand_out labels at way operand = list_any (is_out labels 65536) (operand_values operand)

-- the values of a statement
abbrev pub values_in : Option Statement → List Value
values_in None = []
values_in (Some (instruction name operand)) = operand_values operand
values_in (Some (org n)) = []
values_in (Some (bytes values)) = values
values_in (Some (words values)) = values

abbrev pub statement_out : Part → Labels → ℕ → Option Statement → Bool
statement_out part labels at None = false
statement_out part labels at (Some (instruction name operand)) = operand_out labels at (mode_of part name operand) operand
statement_out part labels at (Some (org n)) = false
statement_out part labels at (Some (bytes values)) = list_any (is_out labels 256) values
statement_out part labels at (Some (words values)) = list_any (is_out labels 65536) values

-- The fault that the second pass finds in a line: an unknown label before a value out of range.
abbrev pub second_fault : Part → ℕ → Labels → ℕ → Option Line → Option AsmError
second_fault part row labels at None = None
second_fault part row labels at (Some line) =
    or_else (list_any (is_unknown labels) (values_in line.statement)) (UnknownLabel row)
    (or_else (statement_out part labels at line.statement) (OutOfRange row) None)

abbrev pub second_pass : Part → ℕ → Labels → List Placed → Option AsmError
second_pass part row labels [] = None
second_pass part row labels (p ∷ placed) =
    or_later (second_fault part row labels p.address p.line) (second_pass part (row + 1) labels placed)

-- a word, its low byte first
abbrev pub word_bytes : ℕ → List ℕ
word_bytes n = n % 256 ∷ n / 256 ∷ []

-- the operand's bytes
abbrev pub operand_bytes : ℕ → Mode → List ℕ → List ℕ
operand_bytes at way [] = []
operand_bytes at Rel (n ∷ ns) = distance at n % 256 ∷ []
operand_bytes at Abs (n ∷ ns) = word_bytes n
operand_bytes at AbsX (n ∷ ns) = word_bytes n
operand_bytes at AbsY (n ∷ ns) = word_bytes n
operand_bytes at Ind (n ∷ ns) = word_bytes n
operand_bytes at IndAbsX (n ∷ ns) = word_bytes n
operand_bytes at way (n ∷ ns) = n ∷ []

-- an instruction: the table's opcode, and the operand
abbrev pub instruction_bytes : Part → Labels → ℕ → Mnemonic → Operand → Option Mode → List ℕ
instruction_bytes part labels at name operand None = []
instruction_bytes part labels at name operand (Some way) =
    unwrap_or (find_form part name way) 0 ∷ operand_bytes at way (map (value_in labels) (operand_values operand))

-- The bytes of a statement at an address. An `org` fills with 00 up to its own address.
abbrev pub statement_bytes : Part → Labels → ℕ → Option Statement → List ℕ
statement_bytes part labels at None = []
statement_bytes part labels at (Some (instruction name operand)) = instruction_bytes part labels at name operand (mode_of part name operand)
statement_bytes part labels at (Some (org n)) = replicate (n.value - at) 0
statement_bytes part labels at (Some (bytes values)) = map (value_in labels) values
statement_bytes part labels at (Some (words values)) = concat (map (λ v. word_bytes (value_in labels v)) values)

abbrev pub line_bytes : Part → Labels → ℕ → Option Line → List ℕ
line_bytes part labels at None = []
line_bytes part labels at (Some line) = statement_bytes part labels at line.statement

-- an origin and the bytes from there on
abbrev pub Program : Type 0
Program = ℕ × List ℕ

abbrev pub unless_fault : Option AsmError → Result Program AsmError → Result Program AsmError
unless_fault (Some e) program = Err e
unless_fault None program = program

-- The meaning of placed lines with the given origin.
abbrev pub program_of : Part → ℕ → List Placed → Result Program AsmError
program_of part origin placed =
    unless_fault (first_pass part 1 [] placed)
    (unless_fault (second_pass part 1 (labels_of placed) placed)
    (Ok (origin, concat (map (λ p. line_bytes part (labels_of placed) p.address p.line) placed))))

-- The meaning of a source text: its origin and its bytes, or its first offending line. Lines count
-- from 1.
unfoldable pub source : Part → List ℕ → Result Program AsmError
source part text = program_of part (origin_of (parsed_text text)) (placement part (parsed_text text))
