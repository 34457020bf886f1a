-- The passes find what the source means. Labels matter only by the value of each name.
use Rattle.std.proofs.Common.{◌≡◌, refl, ap, ℕ, ◌+◌, List, [], ◌∷◌, Option, Some, None, option_map, ◌∙◌, ◌≤◌, false, Ok, Err, arith}
use Rattle.std.specs.Borrow.{Bor}
use Rattle.std.specs.BTreeMap.{BTreeMap}
use Rattle.std.proofs.Math.Path.{fun_ext}
use Rattle.op_table.specs.declared.Part.{Part}
use Rattle.op_table.specs.declared.Mnemonic.{Mnemonic}
use Rattle.op_table.specs.declared.Mode.{Mode}
use Rattle.op_table.specs.declared.Mode.TheVariants.{Imm, Rel}
use Rattle.asm_lines.specs.Syntax.{Base, number, label, beyond, Operand, Line, Statement, instruction, org, bytes, words, parsed_text}
use Rattle.asm65.specs.Placement.{Placed, mode_of, origin_of, first_origin, is_past, placed_from, first_pass, first_fault, after_line}
use Rattle.asm65.specs.Source.{Labels, value_of_label, base_value, value_in, is_unknown, is_out, operand_out, statement_out}
use Rattle.asm65.specs.Source.{second_fault, second_pass, instruction_bytes, statement_bytes, line_bytes, labels_of, program_of, source}
use Rattle.asm65.specs.Passes.{program_bytes, IsLabelled, IsProgram}
use Rattle.asm65.specs.declared.AsmError.{AsmError}
use Rattle.asm65.specs.CodeLabels.{labels_in}
use Rattle.asm65.proofs.PassLemmas.{clear_line}
use Rattle.asm65.proofs.EncodeLemmas.{no_fault, org_within}

abbrev pub SameLabels : Labels → Labels → Type 0
SameLabels some others = (q : List ℕ) → value_of_label some q ≡ value_of_label others q

module _ (some others : Labels) (same : SameLabels some others) where
  base_value-same : (b : Base) → base_value some b ≡ base_value others b
  base_value-same (number n) = refl
  base_value-same (label name) = same name
  base_value-same (beyond name n) = ap (option_map (λ at. at + n.value)) (same name)

  same_values : value_in some ≡ value_in others
  same_values = fun_ext λ v. simp base_value-same

  same_unknown : is_unknown some ≡ is_unknown others
  same_unknown = fun_ext λ v. simp base_value-same

  same_out : (limit : ℕ) → is_out some limit ≡ is_out others limit
  same_out limit = fun_ext λ v. simp base_value-same

  operand_out-same : (at : ℕ) (way : Option Mode) (operand : Operand) → operand_out some at way operand ≡ operand_out others at way operand
  operand_out-same at (Some Imm) operand = rw (same_out 256)
  operand_out-same at (Some Rel) operand = rw (same_out 65536) (simp base_value-same)
  operand_out-same at way operand = rw (same_out 65536)

  statement_out-same : (part : Part) (at : ℕ) (s : Option Statement) → statement_out part some at s ≡ statement_out part others at s
  statement_out-same part at None = refl
  statement_out-same part at (Some (instruction name operand)) = operand_out-same at (mode_of part name operand) operand
  statement_out-same part at (Some (org n)) = refl
  statement_out-same part at (Some (bytes values)) = rw (same_out 256)
  statement_out-same part at (Some (words values)) = rw (same_out 65536)

  second_fault-same : (part : Part) (row at : ℕ) (line : Option Line) → second_fault part row some at line ≡ second_fault part row others at line
  second_fault-same part row at None = refl
  second_fault-same part row at (Some line) = rw (same_unknown, statement_out-same part at line.statement)

  pub second_pass-same : (part : Part) (row : ℕ) (placed : List Placed) → second_pass part row some placed ≡ second_pass part row others placed
  second_pass-same part row [] = refl
  second_pass-same part row (p ∷ placed) = rw (second_fault-same part row p.address p.line, second_pass-same part (row + 1) placed)

  instruction_bytes-same : (part : Part) (at : ℕ) (name : Mnemonic) (operand : Operand) (way : Option Mode)
      → instruction_bytes part some at name operand way ≡ instruction_bytes part others at name operand way
  instruction_bytes-same part at name operand None = refl
  instruction_bytes-same part at name operand (Some way) = rw same_values

  statement_bytes-same : (part : Part) (at : ℕ) (s : Option Statement) → statement_bytes part some at s ≡ statement_bytes part others at s
  statement_bytes-same part at None = refl
  statement_bytes-same part at (Some (instruction name operand)) = instruction_bytes-same part at name operand (mode_of part name operand)
  statement_bytes-same part at (Some (org n)) = refl
  statement_bytes-same part at (Some (bytes values)) = rw same_values
  statement_bytes-same part at (Some (words values)) = simp base_value-same

  line_bytes-same : (part : Part) (at : ℕ) (line : Option Line) → line_bytes part some at line ≡ line_bytes part others at line
  line_bytes-same part at None = refl
  line_bytes-same part at (Some line) = statement_bytes-same part at line.statement

  pub program_bytes-same : (part : Part) (placed : List Placed) → program_bytes part some placed ≡ program_bytes part others placed
  program_bytes-same part [] = refl
  program_bytes-same part (p ∷ placed) = rw (line_bytes-same part p.address p.line, program_bytes-same part placed)

-- ---- the origin

origin_behind : (at later : ℕ) (s : Option Statement) → is_past at s ≡ false → later ≤ 65535 → first_origin s later ≤ 65535
origin_behind at later None e h = h
origin_behind at later (Some (org n)) e h = (org_within at n.value e).1
origin_behind at later (Some _) e h = omega arith

-- lines without a fault in the first pass have an origin in memory
origin_small : (part : Part) (row : ℕ) (names : List (List ℕ)) (at : ℕ) (lines : List (Option Line))
    → first_pass part row names (placed_from part at lines) ≡ None → origin_of lines ≤ 65535
origin_small part row names at [] e = omega arith
origin_small part row names at (None ∷ lines) e = cc
origin_small part row names at (Some line ∷ lines) e =
    let faults = no_fault (first_fault part row names at (Some line)) _ e in
    let clear = clear_line part row names at line faults.0 in
    let later = origin_small part (row + 1) _ (after_line part at (Some line)) lines faults.1 in
    origin_behind at (origin_of lines) line.statement clear.within later

-- ---- the whole

module _ (part : Part) (text : List ℕ) {origin : ℕ} (is : origin ≡ origin_of (parsed_text text)) where
  source_is : source part text ≡ program_of part origin (placed_from part origin (parsed_text text))
  unfolding source
  source_is = rw is

  pub source_first : {e : AsmError} → first_pass part 1 [] (placed_from part origin (parsed_text text)) ≡ Some e → source part text ≡ Err e
  source_first fault = source_is ∙ rw fault

  module _ {labels : BTreeMap (Bor (List ℕ)) ℕ} (labelled : IsLabelled part (placed_from part origin (parsed_text text)) labels) where
    pub origin_within : origin ≤ 65535
    origin_within = rw is (origin_small part 1 [] origin (parsed_text text) labelled.clear)

    same_pass : second_pass part 1 (labels_in labels) (placed_from part origin (parsed_text text))
        ≡ second_pass part 1 (labels_of (placed_from part origin (parsed_text text))) (placed_from part origin (parsed_text text))
    same_pass = second_pass-same (labels_in labels) _ labelled.labelled part 1 (placed_from part origin (parsed_text text))

    pub source_second : {e : AsmError} → second_pass part 1 (labels_in labels) (placed_from part origin (parsed_text text)) ≡ Some e → source part text ≡ Err e
    source_second fault = source_is ∙ rw (labelled.clear, ← same_pass, fault)

    pub source_program : {made : List ℕ} → IsProgram part (labels_in labels) origin (placed_from part origin (parsed_text text)) made → source part text ≡ Ok (origin, made)
    source_program program =
        let its_bytes = program_bytes-same (labels_in labels) _ labelled.labelled part (placed_from part origin (parsed_text text)) in
        source_is ∙ rw (labelled.clear, ← same_pass, program.clear, ← its_bytes, ← program.made)
