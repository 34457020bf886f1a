-- The lines of a disassembly, as the assembler reads them.
use Rattle.std.proofs.Common.{◌≡◌, ℕ, zero, suc, ◌+◌, ◌*◌, ◌/◌, ◌%◌, ◌^◌, ◌<◌, ◌==◌, List, [], ◌∷◌, ◌++◌, refl, ap, ◌∙◌, Option}
use Rattle.std.proofs.Common.{Some, None, Bool, true, false, not, nat_lt, if◌then◌else◌, eqb, eqb-true, codes, append_assoc, append-nil, zero-add, All, map, option_map, arith, lit<}
use Rattle.std.specs.Prelude.{slice_index}
use Rattle.std.specs.List.{list_all}
use Rattle.std.proofs.lemmas.Bool.{agree_below, agree_below_at, and_parts, not-true}
use Rattle.std.proofs.lemmas.List.Folds.{list_all-append}
use Rattle.std.proofs.lemmas.List.Sums.{take_while-cons}
use Rattle.op_table.specs.declared.Part.{Part}
use Rattle.op_table.specs.declared.Mnemonic.{Mnemonic}
use Rattle.op_table.specs.declared.Mnemonic.TheVariants.{Adc}
use Rattle.op_table.specs.declared.Mode.{Mode}
use Rattle.op_table.specs.declared.Mode.TheVariants.{Imp, Acc, Imm, Zp, ZpX, ZpY, Abs, AbsX, AbsY, IndX, IndY, IndZp, Rel, Ind, IndAbsX, Spare}
use Rattle.op_table.specs.Names.{name_of, mnemonic_of}
use Rattle.op_table.specs.Forms.{Form}
use Rattle.op_table.specs.Rows.{bytes_of}
use Rattle.asm_lines.specs.Tokens.{Token, word, is_word_byte, is_code, code_of, cut_of, tokens_of, word_before}
use Rattle.asm_lines.specs.Syntax.{number, whole, Value, is_named, hex_number, Operand, nothing, accumulator, immediate, direct, direct_x, direct_y}
use Rattle.asm_lines.specs.Syntax.{indirect, indirect_x, indirect_y, Statement, instruction, org, bytes, Line, operand_of, line_of, rest_of, parsed_text}
use Rattle.digits.specs.Hexadecimal.{hex_digit, hex_digits, is_hex_any_case, hex_value}
use Rattle.digits.specs.Lines.{text_lines}
use Rattle.dis65.specs.Listing.{lines_from, line_text, form_here, bytes_behind, decode, operand_text, target}

-- ---- digits

-- a digit passes a test that all sixteen pass
digit_passes : (p : ℕ → Bool) → agree_below (λ d. p (hex_digit d)) (λ _. true) 16 ≡ true → (n : ℕ) → p (hex_digit (n % 16)) ≡ true
digit_passes p all n = agree_below_at (λ d. p (hex_digit d)) (λ _. true) 16 (n % 16) all (omega arith)

digits_pass : (p : ℕ → Bool) → agree_below (λ d. p (hex_digit d)) (λ _. true) 16 ≡ true → (k n : ℕ) → list_all p (hex_digits k n) ≡ true
unfolding hex_digits
digits_pass p all zero n = refl
digits_pass p all (suc k) n = rw (digit_passes p all (n / 16 ^ k)) (digits_pass p all k n)

digit_value : (n : ℕ) → hex_value (hex_digit (n % 16)) ≡ n % 16
digit_value n = eqb-true _ _ (agree_below_at (λ d. eqb (hex_value (hex_digit d)) d) (λ _. true) 16 (n % 16) refl (omega arith))

-- two digits, and four, are read back as the number from which they were made
number_back : (small : Bool) (n : ℕ) → n < (if small then 256 else 65536)
    → hex_number (hex_digits (if small then 2 else 4) n) ≡ Some (record { value = n; byte_sized = small })
unfolding hex_digits
number_back true n h =
    let e : 16 * (n / 16 % 16) + n / 1 % 16 ≡ n = omega arith in
    let is_hex = digit_passes is_hex_any_case refl in
    rw (is_hex (n / 16), is_hex (n / 1), digit_value (n / 16), digit_value (n / 1), zero-add, e)
number_back false n h =
    let e : 16 * (16 * (16 * (n / 4096 % 16) + n / 256 % 16) + n / 16 % 16) + n / 1 % 16 ≡ n = omega arith in
    let is_hex = digit_passes is_hex_any_case refl in
    rw (is_hex (n / 4096), is_hex (n / 256), is_hex (n / 16), is_hex (n / 1), digit_value (n / 4096), digit_value (n / 256), digit_value (n / 16), digit_value (n / 1), zero-add, e)

-- a run of word bytes, before others
cut_word : (run rest : List ℕ) → list_all is_word_byte run ≡ true → cut_of (run ++ rest) ≡ record { run = run ++ (cut_of rest).run; tokens = (cut_of rest).tokens }
cut_word [] rest h = refl
cut_word (b ∷ run) rest h =
    let parts = and_parts (is_word_byte b) (list_all is_word_byte run) h in
    rw (cut_word run rest parts.1, parts.0)

-- a run of digits, and the number that it is
record Spells (run : List ℕ) (n : ℕ) (small : Bool) : Type 0 where
  before : (rest : List ℕ) → cut_of (run ++ rest) ≡ record { run = run ++ (cut_of rest).run; tokens = (cut_of rest).tokens }
  alone : cut_of run ≡ record { run = run; tokens = [] }
  inner : list_all is_code run ≡ true
  number : hex_number run ≡ Some (record { value = n; byte_sized = small })

spells : (small : Bool) (n : ℕ) → n < (if small then 256 else 65536) → Spells (hex_digits (if small then 2 else 4) n) n small
spells small n h =
    let run = hex_digits (if small then 2 else 4) n in
    let words = digits_pass is_word_byte refl (if small then 2 else 4) n in
    record {
      before = λ rest. cut_word run rest words;
      alone = rw (append-nil run) at (cut_word run [] words);
      inner = digits_pass is_code refl (if small then 2 else 4) n;
      number = number_back small n h;
    }

-- ---- operands

-- a number alone
abbrev pub plain : ℕ → Bool → Value
plain n small = record { portion = whole; base = number (record { value = n; byte_sized = small }) }

-- the operand is written in two digits
abbrev pub is_small : Mode → Bool
is_small Rel = false
is_small way = nat_lt (bytes_of way) 3

-- the number that is written as the operand
abbrev pub number_at : ℕ → Mode → ℕ → ℕ → ℕ
number_at at Rel low high = target at low
number_at at way low high = if is_small way then low else low + 256 * high

-- the operand form of a mode
abbrev pub operand_by : Mode → Value → Operand
operand_by Imp v = nothing
operand_by Acc v = accumulator
operand_by Imm v = immediate v
operand_by Zp v = direct v
operand_by ZpX v = direct_x v
operand_by ZpY v = direct_y v
operand_by Abs v = direct v
operand_by AbsX v = direct_x v
operand_by AbsY v = direct_y v
operand_by IndX v = indirect_x v
operand_by IndY v = indirect_y v
operand_by IndZp v = indirect v
operand_by Rel v = direct v
operand_by Ind v = indirect v
operand_by IndAbsX v = indirect_x v
operand_by Spare v = nothing

-- the number is in the range of its digits
pub number_fits : (at : ℕ) (way : Mode) (l h : ℕ) → l < 256 → h < 256 → number_at at way l h < (if is_small way then 256 else 65536)
number_fits at Rel l h a b = omega arith
number_fits at _ l h a b = omega arith

-- the assembler's reading of an operand's text
record IsOperand (text : List ℕ) (operand : Operand) : Type 0 where
  ended : (cut_of text).run ≡ []
  begins : (run : List ℕ) → line_of (word run ∷ (cut_of text).tokens) ≡ option_map (λ s. record { label = None; statement = s }) (rest_of (word run ∷ (cut_of text).tokens))
  reads : operand_of (cut_of text).tokens ≡ Some operand
  inner : list_all is_code text ≡ true

-- the operand of a mode, from its text
operand_is : (at : ℕ) (way : Mode) (l h : ℕ) → l < 256 → h < 256
    → IsOperand (operand_text at way l h) (operand_by way (plain (number_at at way l h) (is_small way)))
operand_is at Imp l h a b = record { ended = refl; begins = λ run. refl; reads = refl; inner = refl }
operand_is at Acc l h a b = record { ended = refl; begins = λ run. refl; reads = refl; inner = refl }
operand_is at Spare l h a b = record { ended = refl; begins = λ run. refl; reads = refl; inner = refl }
operand_is at way l h a b =
    let s = spells (is_small way) (number_at at way l h) (number_fits at way l h a b) in
    record {
      ended = refl;
      begins = λ run. refl;
      reads = simp (s.alone, s.before, append-nil, s.number);
      inner = simp (list_all-append, s.inner);
    }

-- ---- lines

-- the assembler's reading of a mnemonic's name: it is a word and no directive, and leads back to
-- its mnemonic
record IsName (run : List ℕ) (name : Mnemonic) : Type 0 where
  words : list_all is_word_byte run ≡ true
  inner : list_all is_code run ≡ true
  some : (tokens : List Token) → word_before run tokens ≡ word run ∷ tokens
  no_org : is_named (codes "ORG") run ≡ false
  no_byte : is_named (codes "BYTE") run ≡ false
  no_word : is_named (codes "WORD") run ≡ false
  is : mnemonic_of run ≡ Some name

name_is : (name : Mnemonic) → IsName (name_of name) name
unfolding mnemonic_of
name_is Adc = record { words = refl; inner = refl; some = λ t. refl; no_org = refl; no_byte = refl; no_word = refl; is = refl }
name_is _ = record { words = refl; inner = refl; some = λ t. refl; no_org = refl; no_byte = refl; no_word = refl; is = refl }

-- a line of a statement alone
abbrev pub unlabelled : Statement → Option Line
unlabelled s = Some (record { label = None; statement = Some s })

-- a line without its line feed, and its meaning
record Means (line : List ℕ) (statement : Statement) : Type 0 where
  inner : list_all is_code line ≡ true
  reads : line_of (tokens_of line) ≡ unlabelled statement

-- the line of an instruction
instruction_line : (at : ℕ) (name : Mnemonic) (way : Mode) (l h : ℕ) → l < 256 → h < 256
    → Means (name_of name ++ operand_text at way l h) (instruction name (operand_by way (plain (number_at at way l h) (is_small way))))
instruction_line at name way l h a b =
    let o = operand_is at way l h a b in
    let n = name_is name in
    let run = name_of name in
    let text = operand_text at way l h in
    record {
      inner = rw (list_all-append is_code run text, n.inner) o.inner;
      reads = rw (cut_word run text n.words, o.ended, append-nil run, n.some, o.begins run, n.no_org, n.no_byte, n.no_word, n.is, o.reads) refl;
    }

-- the lines of the directives
org_line : (n : ℕ) → n < 65536 → Means (codes "org &" ++ hex_digits 4 n) (org (record { value = n; byte_sized = false }))
org_line n h = let s = spells false n h in record { inner = s.inner; reads = rw (s.alone, s.number) refl }

byte_line : (n : ℕ) → n < 256 → Means (codes "byte &" ++ hex_digits 2 n) (bytes (plain n true ∷ []))
byte_line n h = let s = spells true n h in record { inner = s.inner; reads = rw (s.alone, s.number) refl }

-- ---- a line, and the lines after it

-- a line without a line feed inside is the first
lines_first : (line rest : List ℕ) → list_all is_code line ≡ true → text_lines (line ++ 10 ∷ rest) ≡ (line ++ 10 ∷ []) ∷ text_lines rest
lines_first [] rest h = refl
lines_first (b ∷ line) rest h =
    let parts = and_parts (is_code b) (list_all is_code line) h in
    let other = not-true (b == 10) (and_parts (not (b == 10)) (not (b == 59)) parts.0).0 in
    rw (other, lines_first line rest parts.1)

-- and without a `;` it is all code up to its line feed
no_comment : (line : List ℕ) → list_all is_code line ≡ true → code_of (line ++ 10 ∷ []) ≡ line
no_comment [] h = take_while-cons is_code 10 []
no_comment (b ∷ line) h =
    let parts = and_parts (is_code b) (list_all is_code line) h in
    take_while-cons is_code b (line ++ 10 ∷ []) ∙ rw parts.0 (ap (λ l. b ∷ l) (no_comment line parts.1))

-- a line at the front is read first
parsed_line : (line rest : List ℕ) (s : Statement) → Means line s → parsed_text (line ++ 10 ∷ rest) ≡ unlabelled s ∷ parsed_text rest
parsed_line line rest s m =
    ap (λ ls. map (λ l. line_of (tokens_of (code_of l))) ls) (lines_first line rest m.inner)
    ∙ ap (λ c. line_of (tokens_of c) ∷ parsed_text rest) (no_comment line m.inner)
    ∙ ap (λ l. l ∷ parsed_text rest) m.reads

-- ---- the statements of a disassembly

-- the byte at each place, 0 past the end
abbrev pub AreBytes : List ℕ → Type 0
AreBytes xs = (k : ℕ) → slice_index xs k < 256

pub are_bytes : (xs : List ℕ) → All (λ b. b < 256) xs → AreBytes xs
are_bytes [] all k = lit< tt
are_bytes (b ∷ xs) all zero = all 0 0 (omega arith)
are_bytes (b ∷ xs) all (suc k) = are_bytes xs (λ i d h. all (suc i) d (omega arith)) k

-- the statement of an opcode's line
abbrev pub statement_at : ℕ → ℕ → List ℕ → Option Form → Statement
statement_at at op behind None = bytes (plain op true ∷ [])
statement_at at op behind (Some f) =
    instruction f.mnemonic (operand_by f.mode (plain (number_at at f.mode (slice_index behind 0) (slice_index behind 1)) (is_small f.mode)))

-- of bytes from an address on, of which some belong to the line before them
abbrev pub listed : Part → ℕ → ℕ → List ℕ → List (Option Line)
listed part at skip [] = []
listed part at (suc skip) (b ∷ xs) = listed part (at + 1) skip xs
listed part at zero (op ∷ xs) =
    unlabelled (statement_at at op xs (form_here part op xs)) ∷ listed part (at + 1) (bytes_behind (form_here part op xs)) xs

-- that line is read as its statement
first_line : (at op : ℕ) (behind rest : List ℕ) (o : Option Form) → op < 256 → AreBytes behind
    → parsed_text (line_text at op behind o ++ rest) ≡ unlabelled (statement_at at op behind o) ∷ parsed_text rest
unfolding hex_digits
first_line at op behind rest None h all = parsed_line (codes "byte &" ++ hex_digits 2 op) rest _ (byte_line op h)
first_line at op behind rest (Some f) h all =
    let line = name_of f.mnemonic ++ operand_text at f.mode (slice_index behind 0) (slice_index behind 1) in
    ap parsed_text (append_assoc line (codes "\n") rest)
    ∙ parsed_line line rest _ (instruction_line at f.mnemonic f.mode (slice_index behind 0) (slice_index behind 1) (all 0) (all 1))

-- and so are all lines
parsed_lines : (part : Part) (at skip : ℕ) (xs : List ℕ) → AreBytes xs → parsed_text (lines_from part at skip xs) ≡ listed part at skip xs
parsed_lines part at skip [] all = refl
parsed_lines part at (suc skip) (b ∷ xs) all = parsed_lines part (at + 1) skip xs (λ k. all (suc k))
parsed_lines part at zero (op ∷ xs) all =
    let here = form_here part op xs in
    let behind = bytes_behind here in
    let tail = λ (k : ℕ). all (suc k) in
    first_line at op xs (lines_from part (at + 1) behind xs) here (all 0) tail
    ∙ ap (λ ls. unlabelled (statement_at at op xs here) ∷ ls) (parsed_lines part (at + 1) behind xs tail)

-- the whole text
pub parsed_decode : (part : Part) (origin : ℕ) (xs : List ℕ) → origin < 65536 → AreBytes xs
    → parsed_text (decode part xs origin) ≡ unlabelled (org (record { value = origin; byte_sized = false })) ∷ listed part origin 0 xs
unfolding decode hex_digits
parsed_decode part origin xs h all =
    parsed_line (codes "org &" ++ hex_digits 4 origin) (lines_from part origin 0 xs) _ (org_line origin h)
    ∙ ap (λ ls. unlabelled (org (record { value = origin; byte_sized = false })) ∷ ls) (parsed_lines part origin 0 xs all)
