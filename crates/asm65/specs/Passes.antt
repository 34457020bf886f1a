-- The work of the passes on a line, and on a text.
use Rattle.std.specs.Prelude.{◌≡◌, ℕ, ◌+◌, ◌≤◌, Bool, false, List, [], ◌∷◌, ◌++◌, length, map, Option, Some, None, unwrap_or}
use Rattle.std.specs.Borrow.{Bor}
use Rattle.std.specs.BTreeMap.{BTreeMap}
use Rattle.std.specs.List.{concat}
use Rattle.op_table.specs.declared.Part.{Part}
use Rattle.asm_lines.specs.Syntax.{Line}
use Rattle.asm65.specs.Placement.{Placed, origin_of, after_line, is_long, first_fault, first_pass}
use Rattle.asm65.specs.Source.{Labels, labels_of, value_of_label, line_labels, second_fault, second_pass, line_bytes}
use Rattle.asm65.specs.CodeLabels.{labels_in, names_in}

-- With the line before any others, the origin is the given one, or theirs if it is None.
abbrev pub SettlesOrigin : Option Line → Option ℕ → Type 0
SettlesOrigin line origin = (lines : List (Option Line)) → origin_of (line ∷ lines) ≡ unwrap_or origin (origin_of lines)

-- The first pass finds no fault in a line, and has added the line's label. The address after the
-- line is next.
pub record IsPlaced (part : Part) (number address : ℕ) (line : Option Line) (old new : BTreeMap (Bor (List ℕ)) ℕ) (next : ℕ) : Type 0 where
  pub clear : first_fault part number (names_in old) address line ≡ None
  pub behind : next ≡ after_line part address line
  pub labelled : (q : List ℕ) → value_of_label (labels_in new) q ≡ value_of_label (labels_in old ++ line_labels address line) q

-- The first pass finds no fault in the placed lines, and their labels are labels.
pub record IsLabelled (part : Part) (placed : List Placed) (labels : BTreeMap (Bor (List ℕ)) ℕ) : Type 0 where
  pub clear : first_pass part 1 [] placed ≡ None
  pub labelled : (q : List ℕ) → value_of_label (labels_in labels) q ≡ value_of_label (labels_of placed) q

abbrev pub line_is_long : Part → ℕ → Option Line → Bool
line_is_long part at None = false
line_is_long part at (Some line) = is_long part at line.statement

-- The second pass finds no fault in a line, and has appended the line's bytes. The address after
-- the line is next.
pub record IsEncoded (part : Part) (number : ℕ) (labels : Labels) (address : ℕ) (line : Option Line) (old new : List ℕ) (next : ℕ) : Type 0 where
  pub clear : second_fault part number labels address line ≡ None
  pub bytes : new ≡ old ++ line_bytes part labels address line
  pub behind : next ≡ after_line part address line

-- the bytes of placed lines
abbrev pub program_bytes : Part → Labels → List Placed → List ℕ
program_bytes part labels placed = concat (map (λ p. line_bytes part labels p.address p.line) placed)

-- The second pass finds no fault in the placed lines, and their bytes are bytes.
pub record IsProgram (part : Part) (labels : Labels) (origin : ℕ) (placed : List Placed) (bytes : List ℕ) : Type 0 where
  pub clear : second_pass part 1 labels placed ≡ None
  pub made : bytes ≡ program_bytes part labels placed
  pub fits : origin + length bytes ≤ 65536
