-- The program's values of code, as the definitions see them.
use Rattle.std.specs.Prelude.{ℕ, ◌+◌, length, true, false, List, [], ◌∷◌, map, Option, Some, None, option_map}
use Rattle.std.specs.Borrow.{Bor}
use Rattle.asm_lines.specs.declared.tokens.Token.{Token}
use Rattle.asm_lines.specs.declared.tokens.Token.TheVariants.{Word, Hex, Colon, Comma, Hash, Left, Right, Low, High, Plus, Other}
use Rattle.asm_lines.specs.declared.syntax.Number.{Number}
use Rattle.asm_lines.specs.declared.syntax.Number.TheVariants.{Byte, Word as LongNumber}
use Rattle.asm_lines.specs.declared.syntax.Base.{Base}
use Rattle.asm_lines.specs.declared.syntax.Base.TheVariants.{Number as Plain, Label, Beyond}
use Rattle.asm_lines.specs.declared.syntax.Portion.{Portion}
use Rattle.asm_lines.specs.declared.syntax.Portion.TheVariants.{Whole, Low as LowByte, High as HighByte}
use Rattle.asm_lines.specs.declared.syntax.Value.{Value}
use Rattle.asm_lines.specs.declared.syntax.Opening.{Opening}
use Rattle.asm_lines.specs.declared.syntax.Opening.TheVariants.{NoOperand, RegisterA, Hashed, Parenthesized, Bare}
use Rattle.asm_lines.specs.declared.syntax.Closing.{Closing}
use Rattle.asm_lines.specs.declared.syntax.Closing.TheVariants.{Ends, CommaX, CommaY, Closed, CommaXClosed, ClosedCommaY}
use Rattle.asm_lines.specs.declared.syntax.ValueList.{ValueList}
use Rattle.asm_lines.specs.declared.syntax.Operand.{Operand}
use Rattle.asm_lines.specs.declared.syntax.Operand.TheVariants.{Nothing, Accumulator, Immediate, Direct, DirectX, DirectY, Indirect, IndirectX, IndirectY}
use Rattle.asm_lines.specs.declared.syntax.Statement.{Statement}
use Rattle.asm_lines.specs.declared.syntax.Statement.TheVariants.{Instruction, Org, Bytes, Words}
use Rattle.asm_lines.specs.declared.syntax.Line.{Line}
use Rattle.asm_lines.specs.Tokens as tokens
use Rattle.asm_lines.specs.Syntax as syntax

abbrev pub seen_token : Token → tokens.Token
seen_token (Word run) = tokens.word run.now
seen_token (Hex run) = tokens.hex run.now
seen_token Colon = tokens.colon
seen_token Comma = tokens.comma
seen_token Hash = tokens.hash
seen_token Left = tokens.left
seen_token Right = tokens.right
seen_token Low = tokens.low
seen_token High = tokens.high
seen_token Plus = tokens.plus
seen_token Other = tokens.other

-- the token that was read, and the tokens of the code after it
abbrev pub seen_next : Option (Token × Bor (List ℕ)) → List tokens.Token
seen_next None = []
seen_next (Some r) = seen_token r.0 ∷ tokens.tokens_of r.1.now

abbrev pub seen_number : Number → syntax.Number
seen_number (Byte b) = record { value = b; byte_sized = true }
seen_number (LongNumber n) = record { value = n; byte_sized = false }

abbrev pub seen_base : Base → syntax.Base
seen_base (Plain n) = syntax.number (seen_number n)
seen_base (Label name) = syntax.label name.now
seen_base (Beyond name n) = syntax.beyond name.now (seen_number n)

-- a part of a line with the tokens after it
abbrev pub seen_base_and_rest : Base × Bor (List ℕ) → syntax.Base × List tokens.Token
seen_base_and_rest r = (seen_base r.0, tokens.tokens_of r.1.now)

abbrev pub seen_portion : Portion → syntax.Portion
seen_portion Whole = syntax.whole
seen_portion LowByte = syntax.low_byte
seen_portion HighByte = syntax.high_byte

abbrev pub seen_value : Value → syntax.Value
seen_value v = record { portion = seen_portion v.portion; base = seen_base v.base }

abbrev pub seen_value_and_rest : Value × Bor (List ℕ) → syntax.Value × List tokens.Token
seen_value_and_rest r = (seen_value r.0, tokens.tokens_of r.1.now)

abbrev pub seen_opening : Opening → syntax.Opening
seen_opening NoOperand = syntax.no_operand
seen_opening RegisterA = syntax.register_a
seen_opening Hashed = syntax.hashed
seen_opening Parenthesized = syntax.parenthesized
seen_opening Bare = syntax.bare

abbrev pub seen_closing : Closing → syntax.Closing
seen_closing Ends = syntax.ends
seen_closing CommaX = syntax.comma_x
seen_closing CommaY = syntax.comma_y
seen_closing Closed = syntax.closed
seen_closing CommaXClosed = syntax.comma_x_closed
seen_closing ClosedCommaY = syntax.closed_comma_y

abbrev pub seen_value_and_closing : Value × Closing → syntax.Value × syntax.Closing
seen_value_and_closing r = (seen_value r.0, seen_closing r.1)

-- the values before the first None
abbrev pub values_until : List (Option syntax.Value) → List syntax.Value
values_until [] = []
values_until (None ∷ read) = []
values_until (Some v ∷ read) = v ∷ values_until read

-- the values of a list before the first item that is no value
unfoldable pub values_of_list : List tokens.Token → List syntax.Value
values_of_list ts = values_until (map (λ group. syntax.only_value (syntax.value_at group)) (syntax.groups_of ts))

abbrev pub listed_in : Option (Bor (List ℕ)) → List syntax.Value
listed_in None = []
listed_in (Some code) = values_of_list (tokens.tokens_of code.now)

abbrev pub seen_list : ValueList → List syntax.Value
seen_list values = listed_in values.rest

-- the number of bytes from the next value on, plus one for a value left
abbrev pub code_left : Option (Bor (List ℕ)) → ℕ
code_left None = 0
code_left (Some code) = 1 + length code.now

abbrev pub length_left : ValueList → ℕ
length_left values = code_left values.rest

-- a value and the values of the list after it
abbrev pub seen_first : Option (Value × Option (Bor (List ℕ))) → List syntax.Value
seen_first None = []
seen_first (Some r) = seen_value r.0 ∷ listed_in r.1

abbrev pub seen_next_value : Option (Value × ValueList) → List syntax.Value
seen_next_value None = []
seen_next_value (Some r) = seen_value r.0 ∷ seen_list r.1

-- the values that code means, if each item is one
abbrev pub values_from : Option (Bor (List ℕ)) → Option (List syntax.Value)
values_from None = Some []
values_from (Some code) = syntax.values_of (tokens.tokens_of code.now)

abbrev pub values_by_first : Option (Value × Option (Bor (List ℕ))) → Option (List syntax.Value)
values_by_first None = None
values_by_first (Some r) = option_map (λ values. seen_value r.0 ∷ values) (values_from r.1)

abbrev pub seen_operand : Operand → syntax.Operand
seen_operand Nothing = syntax.nothing
seen_operand Accumulator = syntax.accumulator
seen_operand (Immediate v) = syntax.immediate (seen_value v)
seen_operand (Direct v) = syntax.direct (seen_value v)
seen_operand (DirectX v) = syntax.direct_x (seen_value v)
seen_operand (DirectY v) = syntax.direct_y (seen_value v)
seen_operand (Indirect v) = syntax.indirect (seen_value v)
seen_operand (IndirectX v) = syntax.indirect_x (seen_value v)
seen_operand (IndirectY v) = syntax.indirect_y (seen_value v)

abbrev pub seen_statement : Statement → syntax.Statement
seen_statement (Instruction name operand) = syntax.instruction name (seen_operand operand)
seen_statement (Org n) = syntax.org (seen_number n)
seen_statement (Bytes values) = syntax.bytes (seen_list values)
seen_statement (Words values) = syntax.words (seen_list values)

abbrev pub seen_line : Line → syntax.Line
seen_line line = record { label = option_map (λ name. name.now) line.label; statement = option_map seen_statement line.statement }

-- a statement that begins with the word run
abbrev pub word_statement : List ℕ → List tokens.Token → Option syntax.Statement
word_statement run ts = syntax.statement_of (tokens.word run ∷ ts)

-- the word before a colon at the front of tokens, and the tokens after the colon
abbrev pub label_in_front : List tokens.Token → Option (List ℕ × List tokens.Token)
label_in_front (tokens.word run ∷ tokens.colon ∷ ts) = Some (run, ts)
label_in_front ts = None

abbrev pub seen_label_and_rest : Bor (List ℕ) × Bor (List ℕ) → List ℕ × List tokens.Token
seen_label_and_rest r = (r.0.now, tokens.tokens_of r.1.now)
