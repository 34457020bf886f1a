-- The meaning of a line of tokens: an optional label and an optional statement.
use Rattle.std.specs.Prelude.{ℕ, ◌==◌, ◌&&◌, ◌||◌, nat_le, nat_lt, Bool, false, not, List, [], ◌∷◌, length, map, Option, Some, None, option_map, option_and_then, if◌then◌else◌, codes}
use Rattle.std.specs.List.{list_all}
use Rattle.std.specs.Str.{bytes_eq}
use Rattle.std.specs.Char.{to_ascii_uppercase}
use Rattle.op_table.specs.declared.Mnemonic.{Mnemonic}
use Rattle.op_table.specs.Names.{mnemonic_of}
use Rattle.digits.specs.Decimal.{is_digit, decimal_value}
use Rattle.digits.specs.Hexadecimal.{is_hex_any_case, hex_number as hex_value}
use Rattle.digits.specs.Lines.{text_lines}
use Rattle.asm_lines.specs.Tokens.{Token, word, hex, colon, comma, hash, left, right, low, high, plus, other, is_letter, code_of, tokens_of}

-- Numbers. A byte-sized one takes one byte if the form allows it.
pub record Number : Type 0 where
  pub value : ℕ
  pub byte_sized : Bool

-- a decimal number of at most 5 digits, byte-sized below 256
abbrev pub decimal_number : List ℕ → Option Number
decimal_number run =
    if list_all is_digit run && nat_le 1 (length run) && nat_le (length run) 5
    then Some (record { value = decimal_value run; byte_sized = nat_lt (decimal_value run) 256 })
    else None

-- a hexadecimal number of 1 to 4 digits, byte-sized with 1 or 2
abbrev pub hex_number : List ℕ → Option Number
hex_number run =
    if list_all is_hex_any_case run && nat_le 1 (length run) && nat_le (length run) 4
    then Some (record { value = hex_value run; byte_sized = nat_le (length run) 2 })
    else None

-- the number of a token
abbrev pub number_of : Token → Option Number
number_of (word run) = decimal_number run
number_of (hex run) = hex_number run
number_of colon = None
number_of comma = None
number_of hash = None
number_of left = None
number_of right = None
number_of low = None
number_of high = None
number_of plus = None
number_of other = None

-- true if the word run is name, in upper or lower case
abbrev pub is_named : List ℕ → List ℕ → Bool
is_named name run = bytes_eq (map to_ascii_uppercase run) name

abbrev pub is_register : List ℕ → Bool
is_register run = is_named (codes "A") run || is_named (codes "X") run || is_named (codes "Y") run

-- true if the first character is a letter or `_`
abbrev pub begins_name : List ℕ → Bool
begins_name [] = false
begins_name (b ∷ run) = is_letter b || b == 95

-- A label is case sensitive. A, X and Y are no labels in either case.
abbrev pub is_label : List ℕ → Bool
is_label run = begins_name run && not (is_register run)

-- The base of a value.
pub data Base : Type 0 where
  -- a number
  number : (n : Number) → Base
  -- the value of a label
  label : (name : List ℕ) → Base
  -- `label + number`
  beyond : (name : List ℕ) (n : Number) → Base

-- The part of a base that a value takes.
pub data Portion : Type 0 where
  whole : Portion
  -- `<`
  low_byte : Portion
  -- `>`
  high_byte : Portion

pub record Value : Type 0 where
  pub portion : Portion
  pub base : Base

-- a label, with `+` and a number if they follow it
abbrev pub label_at : List ℕ → List Token → Option (Base × List Token)
label_at name [] = Some (label name, [])
label_at name (plus ∷ []) = None
label_at name (plus ∷ t ∷ tokens) = option_map (λ n. (beyond name n, tokens)) (number_of t)
label_at name (word run ∷ tokens) = Some (label name, word run ∷ tokens)
label_at name (hex run ∷ tokens) = Some (label name, hex run ∷ tokens)
label_at name (colon ∷ tokens) = Some (label name, colon ∷ tokens)
label_at name (comma ∷ tokens) = Some (label name, comma ∷ tokens)
label_at name (hash ∷ tokens) = Some (label name, hash ∷ tokens)
label_at name (left ∷ tokens) = Some (label name, left ∷ tokens)
label_at name (right ∷ tokens) = Some (label name, right ∷ tokens)
label_at name (low ∷ tokens) = Some (label name, low ∷ tokens)
label_at name (high ∷ tokens) = Some (label name, high ∷ tokens)
label_at name (other ∷ tokens) = Some (label name, other ∷ tokens)

-- a word as a number, or if it is none, as a label with what follows it
abbrev pub word_at : List ℕ → List Token → Option Number → Option (Base × List Token)
word_at run tokens (Some n) = Some (number n, tokens)
word_at run tokens None = if is_label run then label_at run tokens else None

-- a value's base at the front of tokens, and the tokens after it
abbrev pub base_at : List Token → Option (Base × List Token)
base_at [] = None
base_at (word run ∷ tokens) = word_at run tokens (decimal_number run)
base_at (hex run ∷ tokens) = option_map (λ n. (number n, tokens)) (hex_number run)
base_at (colon ∷ tokens) = None
base_at (comma ∷ tokens) = None
base_at (hash ∷ tokens) = None
base_at (left ∷ tokens) = None
base_at (right ∷ tokens) = None
base_at (low ∷ tokens) = None
base_at (high ∷ tokens) = None
base_at (plus ∷ tokens) = None
base_at (other ∷ tokens) = None

abbrev pub portion_of : Portion → Option (Base × List Token) → Option (Value × List Token)
portion_of portion read = option_map (λ b. (record { portion = portion; base = b.0 }, b.1)) read

-- a value at the front of tokens, and the tokens after it
abbrev pub value_at : List Token → Option (Value × List Token)
value_at (low ∷ tokens) = portion_of low_byte (base_at tokens)
value_at (high ∷ tokens) = portion_of high_byte (base_at tokens)
value_at tokens = portion_of whole (base_at tokens)

-- Operands, by their written forms.
pub data Operand : Type 0 where
  -- none
  nothing : Operand
  -- `A`
  accumulator : Operand
  -- `#E`
  immediate : (v : Value) → Operand
  -- `E`
  direct : (v : Value) → Operand
  -- `E,X`
  direct_x : (v : Value) → Operand
  -- `E,Y`
  direct_y : (v : Value) → Operand
  -- `(E)`
  indirect : (v : Value) → Operand
  -- `(E,X)`
  indirect_x : (v : Value) → Operand
  -- `(E),Y`
  indirect_y : (v : Value) → Operand

-- An operand without a value, or the token before its value.
pub data Opening : Type 0 where
  no_operand : Opening
  -- `A`
  register_a : Opening
  -- `#`
  hashed : Opening
  -- `(`
  parenthesized : Opening
  bare : Opening

-- The tokens after the value of an operand.
pub data Closing : Type 0 where
  ends : Closing
  -- `,X`
  comma_x : Closing
  -- `,Y`
  comma_y : Closing
  -- `)`
  closed : Closing
  -- `,X)`
  comma_x_closed : Closing
  -- `),Y`
  closed_comma_y : Closing

abbrev pub opening_of : List Token → Opening
opening_of [] = no_operand
opening_of (hash ∷ tokens) = hashed
opening_of (left ∷ tokens) = parenthesized
opening_of (word run ∷ []) = if is_named (codes "A") run then register_a else bare
opening_of tokens = bare

-- the tokens from the value on
abbrev pub from_value : List Token → List Token
from_value (hash ∷ tokens) = tokens
from_value (left ∷ tokens) = tokens
from_value tokens = tokens

abbrev pub closing_of : List Token → Option Closing
closing_of [] = Some ends
closing_of (comma ∷ word run ∷ []) = if is_named (codes "X") run then Some comma_x else if is_named (codes "Y") run then Some comma_y else None
closing_of (right ∷ []) = Some closed
closing_of (comma ∷ word run ∷ right ∷ []) = if is_named (codes "X") run then Some comma_x_closed else None
closing_of (right ∷ comma ∷ word run ∷ []) = if is_named (codes "Y") run then Some closed_comma_y else None
closing_of tokens = None

-- a value and its closing
abbrev pub value_and_closing : List Token → Option (Value × Closing)
value_and_closing tokens = option_and_then (λ r. option_map (λ closing. (r.0, closing)) (closing_of r.1)) (value_at tokens)

-- The nine forms of an operand.
abbrev pub operand_by : Opening → Option (Value × Closing) → Option Operand
operand_by no_operand read = Some nothing
operand_by register_a read = Some accumulator
operand_by hashed (Some (v, ends)) = Some (immediate v)
operand_by bare (Some (v, ends)) = Some (direct v)
operand_by bare (Some (v, comma_x)) = Some (direct_x v)
operand_by bare (Some (v, comma_y)) = Some (direct_y v)
operand_by parenthesized (Some (v, closed)) = Some (indirect v)
operand_by parenthesized (Some (v, comma_x_closed)) = Some (indirect_x v)
operand_by parenthesized (Some (v, closed_comma_y)) = Some (indirect_y v)
operand_by opening read = None

abbrev pub operand_of : List Token → Option Operand
operand_of tokens = operand_by (opening_of tokens) (value_and_closing (from_value tokens))

pub data Statement : Type 0 where
  -- a mnemonic with its operand
  instruction : (name : Mnemonic) (operand : Operand) → Statement
  -- `org N`
  org : (n : Number) → Statement
  -- `byte E, E`
  bytes : (values : List Value) → Statement
  -- `word E, E`
  words : (values : List Value) → Statement

-- a token added at the front of the first group
abbrev pub group_with : Token → List (List Token) → List (List Token)
group_with t [] = (t ∷ []) ∷ []
group_with t (group ∷ groups) = (t ∷ group) ∷ groups

-- the tokens between commas
abbrev pub groups_of : List Token → List (List Token)
groups_of [] = [] ∷ []
groups_of (comma ∷ tokens) = [] ∷ groups_of tokens
groups_of (t ∷ tokens) = group_with t (groups_of tokens)

-- a value and no tokens after it
abbrev pub only_value : Option (Value × List Token) → Option Value
only_value (Some (v, [])) = Some v
only_value (Some (v, t ∷ tokens)) = None
only_value None = None

-- all values, or None if any is None
abbrev pub all_of : {X : Type 0} → List (Option X) → Option (List X)
all_of [] = Some []
all_of (None ∷ os) = None
all_of (Some x ∷ os) = option_map (λ xs. x ∷ xs) (all_of os)

-- one or more values, separated by commas
abbrev pub values_of : List Token → Option (List Value)
values_of tokens = all_of (map (λ group. only_value (value_at group)) (groups_of tokens))

abbrev pub org_of : List Token → Option Statement
org_of (t ∷ []) = option_map org (number_of t)
org_of tokens = None

-- an instruction, if the word is a mnemonic of either part
abbrev pub instruction_of : List Token → Option Mnemonic → Option Statement
instruction_of tokens None = None
instruction_of tokens (Some name) = option_map (instruction name) (operand_of tokens)

abbrev pub statement_of : List Token → Option Statement
statement_of (word run ∷ tokens) =
    if is_named (codes "ORG") run then org_of tokens
    else if is_named (codes "BYTE") run then option_map bytes (values_of tokens)
    else if is_named (codes "WORD") run then option_map words (values_of tokens)
    else instruction_of tokens (mnemonic_of run)
statement_of tokens = None

pub record Line : Type 0 where
  pub label : Option (List ℕ)
  pub statement : Option Statement

-- the statement after a label, or on a line without one
abbrev pub rest_of : List Token → Option (Option Statement)
rest_of [] = Some None
rest_of (t ∷ tokens) = option_map Some (statement_of (t ∷ tokens))

-- The line that tokens mean, or None if they are outside the syntax.
abbrev pub line_of : List Token → Option Line
line_of (word run ∷ colon ∷ tokens) =
    if is_label run then option_map (λ s. record { label = Some run; statement = s }) (rest_of tokens) else None
line_of tokens = option_map (λ s. record { label = None; statement = s }) (rest_of tokens)

-- The lines of a text.
abbrev pub parsed_text : List ℕ → List (Option Line)
parsed_text text = map (λ line. line_of (tokens_of (code_of line))) (text_lines text)
