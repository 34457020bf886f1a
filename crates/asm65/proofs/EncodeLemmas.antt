-- The second pass line by line: a value in range fits its bytes.
use Rattle.std.proofs.Common.{◌≡◌, sym, refl, ℕ, ◌+◌, ◌<◌, List, [], ◌∷◌, length, map, Bool, true, false, ◌||◌, ◌&&◌}
use Rattle.std.proofs.Common.{Option, Some, None, if◌then◌else◌, inl, inr, ◌∙◌, ◌-◌, ◌*◌, ◌≤◌, ◌++◌, replicate, nat_lt, append_assoc, length-append, add-zero, arith}
use Rattle.std.specs.List.{concat, list_any}
use Rattle.std.proofs.lemmas.Bool.{and_parts, or_parts, cases_Bool, ltb-false}
use Rattle.std.proofs.lemmas.List.{length-map, length-replicate}
use Rattle.std.proofs.lemmas.Bool.Decides.{nat_tests}
use Rattle.op_table.specs.declared.Part.{Part}
use Rattle.op_table.specs.declared.Mnemonic.{Mnemonic}
use Rattle.op_table.specs.declared.Mnemonic.TheVariants.{Jmp}
use Rattle.op_table.specs.declared.Mode.{Mode}
use Rattle.op_table.specs.declared.Mode.TheVariants.{Imp, Acc, Imm, Zp, ZpX, ZpY, Abs, AbsX, AbsY, IndX, IndY, IndZp, Rel, Ind, IndAbsX}
use Rattle.op_table.specs.Names.{same_mnemonic}
use Rattle.op_table.specs.Rows.{bytes_of}
use Rattle.asm_lines.specs.Syntax.{Value, Operand, nothing, accumulator, immediate, direct, direct_x, direct_y, indirect, indirect_x, indirect_y, Line, Statement, instruction, org, bytes, words}
use Rattle.asm65.specs.Placement.{is_byte, has_form, if_formed, shorter, mode_in_parentheses, mode_of, operand_values, Placed, line_names}
use Rattle.asm65.specs.Placement.{or_later, mode_bytes, is_past, is_long, first_fault, first_pass, after_statement, after_line, placed_from}
use Rattle.asm65.specs.Source.{Labels, value_in, is_out, operand_out, operand_bytes, word_bytes, instruction_bytes, statement_bytes, second_fault, second_pass, line_bytes}
use Rattle.asm65.specs.CodeLabels.{room_of, base_or_zero}
use Rattle.asm65.specs.declared.AsmError.{AsmError}
use Rattle.asm65.specs.Passes.{IsEncoded, line_is_long, program_bytes}
use Rattle.asm65.proofs.PassLemmas.{clear_line}

-- ---- the mode that an operand takes

-- the property of each mode that an operand may take; the shorter form is for a byte-sized value
abbrev Each : (Mode → Type 0) → Operand → Type 0
Each P nothing = P Imp
Each P accumulator = P Acc
Each P (immediate v) = P Imm
Each P (direct v) = P Rel × (is_byte v ≡ true → P Zp) × P Abs
Each P (direct_x v) = (is_byte v ≡ true → P ZpX) × P AbsX
Each P (direct_y v) = (is_byte v ≡ true → P ZpY) × P AbsY
Each P (indirect v) = (is_byte v ≡ true → P IndZp) × P Ind
Each P (indirect_x v) = (is_byte v ≡ true → P IndX) × P IndAbsX
Each P (indirect_y v) = is_byte v ≡ true → P IndY

-- the mode that is taken has it
module _ (P : Mode → Type 0) (part : Part) (name : Mnemonic) (way : Mode) where
  formed : (m : Mode) → if_formed part name m ≡ Some way → P m → P way
  formed m e p = by_test (has_form part name m) e
    where
      by_test : (b : Bool) → (if b then Some m else None) ≡ Some way → P way
      by_test true e = let same : m ≡ way = cc in rw same at p
      by_test false e = cc

  if_byte : (b : Bool) (m : Mode) → (if b then if_formed part name m else None) ≡ Some way → (b ≡ true → P m) → P way
  if_byte true m e z = formed m e (z refl)
  if_byte false m e z = cc

  short : (v : Value) (m absolute : Mode) → shorter part name v m absolute ≡ Some way → (is_byte v ≡ true → P m) → P absolute → P way
  short v m absolute e z a = by_test (is_byte v && has_form part name m) refl e
    where
      by_test : (b : Bool) → (is_byte v && has_form part name m) ≡ b → (if b then Some m else if_formed part name absolute) ≡ Some way → P way
      by_test true is e = let same : m ≡ way = cc in rw same at (z (and_parts (is_byte v) (has_form part name m) is).0)
      by_test false is e = formed absolute e a

  in_parentheses : (v : Value) (m absolute : Mode) → mode_in_parentheses part name v m absolute ≡ Some way → (is_byte v ≡ true → P m) → P absolute → P way
  in_parentheses v m absolute e z a = by_test (same_mnemonic name Jmp) e
    where
      by_test : (b : Bool) → (if b then if_formed part name absolute else if is_byte v then if_formed part name m else None) ≡ Some way → P way
      by_test true e = formed absolute e a
      by_test false e = if_byte (is_byte v) m e z

  taken : (operand : Operand) → mode_of part name operand ≡ Some way → Each P operand → P way
  taken nothing e p = formed Imp e p
  taken accumulator e p = formed Acc e p
  taken (immediate v) e p = formed Imm e p
  taken (direct v) e p = by_test (has_form part name Rel) e
    where
      by_test : (b : Bool) → (if b then Some Rel else shorter part name v Zp Abs) ≡ Some way → P way
      by_test true e = let same : Rel ≡ way = cc in rw same at (p.0)
      by_test false e = short v Zp Abs e p.1 p.2
  taken (direct_x v) e p = short v ZpX AbsX e p.0 p.1
  taken (direct_y v) e p = short v ZpY AbsY e p.0 p.1
  taken (indirect v) e p = in_parentheses v IndZp Ind e p.0 p.1
  taken (indirect_x v) e p = in_parentheses v IndX IndAbsX e p.0 p.1
  taken (indirect_y v) e p = if_byte (is_byte v) IndY e p

-- ---- the values of an operand fit its mode

-- a value that is in range, with its base
in_range : (labels : Labels) (limit : ℕ) (v : Value) → (is_out labels limit v || false) ≡ false → (base_or_zero labels v < 65536) × (value_in labels v < limit)
in_range labels limit v e = grind (arith, nat_tests)

-- the number of a value of one byte is below 256, if its base is in memory
module _ (labels : Labels) (at : ℕ) (v : Value) (n : ℕ) (is : n ≡ value_in labels v) (small : is_byte v ≡ true → base_or_zero labels v < 65536 → n < 256) where
  byte : is_byte v ≡ true → (is_out labels 65536 v || false) ≡ false → n < 256
  byte b out = small b (in_range labels 65536 v out).0

  word : (is_out labels 65536 v || false) ≡ false → n < 65536
  word out = rw is (in_range labels 65536 v out).1

  fits : (operand : Operand) → v ∷ [] ≡ operand_values operand → Each (λ w. operand_out labels at (Some w) operand ≡ false → n < room_of w) operand
  fits nothing e = cc
  fits accumulator e = cc
  fits (immediate w) e = let same : w ≡ v = cc in rw same (λ out. rw is (in_range labels 256 v out).1)
  fits (direct w) e = let same : w ≡ v = cc in rw same ((λ out. word (or_parts (is_out labels 65536 v || false) _ out).0), byte, word)
  fits (direct_x w) e = let same : w ≡ v = cc in rw same (byte, word)
  fits (direct_y w) e = let same : w ≡ v = cc in rw same (byte, word)
  fits (indirect w) e = let same : w ≡ v = cc in rw same (byte, word)
  fits (indirect_x w) e = let same : w ≡ v = cc in rw same (byte, word)
  fits (indirect_y w) e = let same : w ≡ v = cc in rw same byte

  pub operand_fits : (part : Part) (name : Mnemonic) (operand : Operand) (way : Mode) → Some way ≡ mode_of part name operand
      → operand_out labels at (mode_of part name operand) operand ≡ false → v ∷ [] ≡ operand_values operand → n < room_of way
  operand_fits part name operand way m out e =
      taken (λ w. operand_out labels at (Some w) operand ≡ false → n < room_of w) part name way operand (sym m) (fits operand e) (rw (← m) at out)

-- ---- the number of bytes of an instruction

-- the opcode and the operand
abbrev IsLong : Labels → ℕ → Operand → Mode → Type 0
IsLong labels at operand way = 1 + length (operand_bytes at way (map (value_in labels) (operand_values operand))) ≡ bytes_of way

long : (labels : Labels) (at : ℕ) (operand : Operand) → Each (IsLong labels at operand) operand
long labels at nothing = refl
long labels at accumulator = refl
long labels at (immediate v) = refl
long labels at (direct v) = (refl, (λ b. refl), refl)
long labels at (direct_x v) = ((λ b. refl), refl)
long labels at (direct_y v) = ((λ b. refl), refl)
long labels at (indirect v) = ((λ b. refl), refl)
long labels at (indirect_x v) = ((λ b. refl), refl)
long labels at (indirect_y v) = λ b. refl

pub length-encoded : (part : Part) (name : Mnemonic) (operand : Operand) (labels : Labels) (at : ℕ) (way : Mode)
    → mode_of part name operand ≡ Some way → IsLong labels at operand way
length-encoded part name operand labels at way m = taken (IsLong labels at operand) part name way operand m (long labels at operand)

-- a test of one value
pub any_one : (p : Value → Bool) (v : Value) → list_any p (v ∷ []) ≡ p v
any_one p v = elim (cases_Bool (p v)) [ inl e ↦ rw e | inr e ↦ rw e ]

-- ---- the number of bytes of a line

instruction_length : (part : Part) (labels : Labels) (at : ℕ) (name : Mnemonic) (operand : Operand) (o : Option Mode) → mode_of part name operand ≡ o
    → length (instruction_bytes part labels at name operand o) ≡ mode_bytes o
instruction_length part labels at name operand None m = refl
instruction_length part labels at name operand (Some way) m =
    let long = length-encoded part name operand labels at way m in omega (arith, long)

words_length : (labels : Labels) (values : List Value) → length (concat (map (λ v. word_bytes (value_in labels v)) values)) ≡ 2 * length values
words_length labels [] = refl
words_length labels (v ∷ values) = omega (arith, words_length labels values)

-- the address of an `org`
pub org_within : (at n : ℕ) → (nat_lt n at || (nat_lt 65535 n || false)) ≡ false → (at ≤ n) × (n ≤ 65535)
org_within at n e = grind (arith, nat_tests)

org_reaches : (at n : ℕ) → (at ≤ n) × (n ≤ 65535) → (at + length {A = ℕ} (replicate (n - at) 0) ≡ n) × (n ≤ 65536)
org_reaches at n h = let long : length {A = ℕ} (replicate (n - at) 0) ≡ n - at = length-replicate (n - at) 0 in (rw long (omega (arith, h.0)), omega (arith, h.1))

-- A statement's bytes end at the address after it, which is in memory or at its end.
abbrev Reaches : Part → Labels → ℕ → Option Statement → Type 0
Reaches part labels at s = (at + length (statement_bytes part labels at s) ≡ after_statement part at s) × (after_statement part at s ≤ 65536)

reaches : (part : Part) (labels : Labels) (at : ℕ) (s : Option Statement) → at ≤ 65536
    → is_past at s ≡ false → is_long part at s ≡ false → Reaches part labels at s
reaches part labels at None within past long = (add-zero at, within)
reaches part labels at (Some (instruction name operand)) within past long =
    (rw (instruction_length part labels at name operand (mode_of part name operand) refl) refl, ltb-false 65536 (at + mode_bytes (mode_of part name operand)) long)
reaches part labels at (Some (org n)) within past long = org_reaches at n.value (org_within at n.value past)
reaches part labels at (Some (bytes values)) within past long =
    let all : length (map (value_in labels) values) ≡ length values = simp length-map in
    (rw all refl, ltb-false 65536 (at + length values) long)
reaches part labels at (Some (words values)) within past long =
    (rw (words_length labels values) refl, ltb-false 65536 (at + 2 * length values) long)

-- ---- line by line

-- The bytes made, and those of the lines left, are the whole program.
pub record Encoded (part : Part) (labels : Labels) (all : List Placed) (number origin at : ℕ) (done : List ℕ) (left : List (Option Line)) : Type 0 where
  pub names : List (List ℕ)
  pub clear : first_pass part (number + 1) names (placed_from part at left) ≡ None
  pub whole : second_pass part 1 labels all ≡ second_pass part (number + 1) labels (placed_from part at left)
  pub made : program_bytes part labels all ≡ done ++ program_bytes part labels (placed_from part at left)
  pub size : origin + length done ≡ at
  pub within : at ≤ 65536

pub no_fault : (o later : Option AsmError) → or_later o later ≡ None → (o ≡ None) × (later ≡ None)
no_fault None later e = (refl, e)
no_fault (Some fault) later e = cc

-- the address after a line without a fault in the first pass
line_reaches : (part : Part) (number : ℕ) (names : List (List ℕ)) (labels : Labels) (at : ℕ) (line : Option Line) → at ≤ 65536
    → first_fault part number names at line ≡ None
    → (at + length (line_bytes part labels at line) ≡ after_line part at line) × (after_line part at line ≤ 65536) × (line_is_long part at line ≡ false)
line_reaches part number names labels at None within e = cc
line_reaches part number names labels at (Some line) within e =
    let clear = clear_line part number names at line e in
    let r = reaches part labels at line.statement within clear.within clear.short in (r.0, r.1, clear.short)

module _ {part : Part} {labels : Labels} {all : List Placed} {number origin at : ℕ} {done : List ℕ} {line : Option Line} {lines : List (Option Line)}
    (so_far : Encoded part labels all number origin at done (line ∷ lines)) where
  encoded_next : (at + length (line_bytes part labels at line) ≡ after_line part at line) × (after_line part at line ≤ 65536) × (line_is_long part at line ≡ false)
  encoded_next =
      line_reaches part (number + 1) so_far.names labels at line so_far.within (no_fault (first_fault part (number + 1) so_far.names at line) _ so_far.clear).0

  pub encoded_short : line_is_long part at line ≡ false
  encoded_short = encoded_next.2

  pub encoded_more : {next : ℕ} {new : List ℕ} → IsEncoded part (number + 1) labels at line done new next → Encoded part labels all (number + 1) origin next new lines
  encoded_more encoded =
      let here = line_bytes part labels at line in
      let behind = program_bytes part labels (placed_from part (after_line part at line) lines) in
      let longer = length-append done here in
      record {
        names = so_far.names ++ line_names line;
        clear = rw encoded.behind (no_fault (first_fault part (number + 1) so_far.names at line) _ so_far.clear).1;
        whole = so_far.whole ∙ rw (encoded.clear, encoded.behind);
        made = so_far.made ∙ rw (encoded.bytes, encoded.behind) (sym (append_assoc done here behind));
        size = rw (encoded.bytes, encoded.behind) (omega (arith, longer, encoded_next.0, so_far.size));
        within = rw encoded.behind encoded_next.1;
      }

  pub encoded_fault : {e : AsmError} → second_fault part (number + 1) labels at line ≡ Some e → second_pass part 1 labels all ≡ Some e
  encoded_fault fault = so_far.whole ∙ rw fault
