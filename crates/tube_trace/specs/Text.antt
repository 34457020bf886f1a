-- What is written: the text of an access, the line of an entry, the lines of many, and a trace.
use Rattle.std.specs.Prelude.{ℕ, ◌+◌, ◌%◌, ◌^◌, ◌≡◌, ◌<◌, List, ◌∷◌, ◌++◌, codes}
use Rattle.std.specs.List.{flat_map}
use Rattle.digits.specs.Hexadecimal.{hex_digits}
use Rattle.beeb_bits.specs.declared.clock.Clock.{Clock}
use Rattle.beeb_bits.specs.declared.Side.{Side}
use Rattle.beeb_bits.specs.declared.Side.TheVariants.{Host, Para}
use Rattle.tube_chip.specs.declared.Op.{Op}
use Rattle.tube_chip.specs.declared.Op.TheVariants.{Read, Write, Reset}
use Rattle.tube_trace.specs.declared.Entry.{Entry}
use Rattle.tube_trace.specs.Entries.{IsEntry}
use Rattle.tube_trace.specs.Trace.{beginning}

-- `H` or `P`
abbrev pub side_letter : Side → ℕ
side_letter Host = 72
side_letter Para = 80

-- `R`, `W` or `X`
abbrev pub op_letter : Op → ℕ
op_letter (Read number) = 82
op_letter (Write number byte) = 87
op_letter Reset = 88

-- a reset has number 0
abbrev pub number_of : Op → ℕ
number_of (Read number) = number
number_of (Write number byte) = number
number_of Reset = 0

-- An access in a line's form: the tick in ten digits, the letters of its side and its operation,
-- the number, and a text for the byte.
unfoldable pub access_text : ℕ → Side → Op → List ℕ → List ℕ
access_text tick side op byte =
    hex_digits 10 tick ++ (32 ∷ side_letter side ∷ 32 ∷ op_letter op ∷ 32 ∷ (48 + number_of op % 8) ∷ 32 ∷ byte)

-- The text for the byte of an access that has no answer yet: `--` for a read, the byte that is
-- written, and `00` for a reset.
abbrev pub asked_byte : Op → List ℕ
asked_byte (Read number) = codes "--"
asked_byte (Write number byte) = hex_digits 2 byte
asked_byte Reset = codes "00"

-- the byte of a line: the one answered or written, or 00
abbrev pub line_byte : Op → ℕ → ℕ
line_byte (Read number) answer = answer
line_byte (Write number byte) answer = byte
line_byte Reset answer = 0

-- The line of an entry, with its line feed.
abbrev pub line_text : Entry → List ℕ
line_text e = access_text (e.tick).0 e.side e.op (hex_digits 2 (line_byte e.op e.answer)) ++ codes "\n"

-- a line for each entry
abbrev pub lines_text : List Entry → List ℕ
lines_text entries = flat_map line_text entries

-- The text of a trace: the beginning of its clock, and the lines of its entries.
abbrev pub text_of : Clock → List Entry → List ℕ
text_of clock entries = beginning clock ++ lines_text entries

-- a write and a reset answer 00
abbrev pub IsAnswer : Op → ℕ → Type 0
IsAnswer (Read number) answer = Unit {0}
IsAnswer (Write number byte) answer = answer ≡ 0
IsAnswer Reset answer = answer ≡ 0

-- An entry that a line represents completely.
pub record HasLine (e : Entry) : Type 0 where
  pub may : IsEntry e
  pub tick : (e.tick).0 < 2 ^ 40
  pub answer : IsAnswer e.op e.answer
