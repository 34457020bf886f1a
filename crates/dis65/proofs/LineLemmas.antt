-- The lines of bytes: the line of a row, and the lines after it.
use Rattle.std.proofs.Common.{◌≡◌, ℕ, zero, suc, ◌+◌, ◌-◌, ◌≤◌, List, [], ◌∷◌, ◌++◌, length, take}
use Rattle.std.proofs.Common.{drop, refl, Option, Some, None, nat_le, if◌then◌else◌, codes, option_map, inl, inr, arith, lit≤, append_assoc}
use Rattle.std.specs.Prelude.{option_and_then, slice_index}
use Rattle.std.proofs.lemmas.List.{take_rest}
use Rattle.std.proofs.lemmas.Bool.{cases_Bool}
use Rattle.std.proofs.lemmas.Bool.Decides.{nat_tests}
use Rattle.op_table.specs.declared.Part.{Part}
use Rattle.op_table.specs.declared.Mode.{Mode}
use Rattle.op_table.specs.declared.Mode.TheVariants.{Imp}
use Rattle.op_table.specs.declared.Row.{Row}
use Rattle.op_table.specs.Names.{name_of}
use Rattle.op_table.specs.Forms.{Form}
use Rattle.op_table.specs.Rows.{row_of, bytes_of}
use Rattle.dis65.specs.Listing.{if_whole, lines_from, line_text, form_here, bytes_behind, operand_text}

-- the row of a form whose bytes are all there
pub row_whole : (part : Part) (n : ℕ) (o : Option Form)
    → option_map (row_of part) (if_whole n o) ≡ option_and_then (λ r. if nat_le r.bytes n then Some r else None) (option_map (row_of part) o)
row_whole part n None = refl
row_whole part n (Some f) = elim (cases_Bool (nat_le (bytes_of f.mode) n)) [ inl e ↦ rw e | inr e ↦ rw e ]

-- a form that is whole is the form, and its bytes are there
pub whole_form : (n : ℕ) (o : Option Form) (f : Form) → if_whole n o ≡ Some f → (o ≡ Some f) × (bytes_of f.mode ≤ n)
whole_form n o f e = grind (arith, nat_tests)

-- the bytes that a line passes are there
pub passed_fits : (n : ℕ) (o : Option Form) → bytes_behind (if_whole (n + 1) o) ≤ n
passed_fits n o = grind (arith, nat_tests)

-- an instruction has one byte at least
pub some_bytes : (way : Mode) → 1 ≤ bytes_of way
some_bytes Imp = lit≤ tt
some_bytes _ = lit≤ tt

-- without a row a line is that of the byte
pub none_line : (part : Part) (at op : ℕ) (behind : List ℕ) (o : Option Form) → None ≡ option_map (row_of part) o
    → (line_text at op behind None ≡ line_text at op behind o) × (0 ≡ bytes_behind o)
none_line part at op behind None e = (refl, refl)
none_line part at op behind (Some f) e = cc

-- With a row the line is that of its instruction. The row counts the opcode and the bytes that the
-- line skips.
pub row_line : (part : Part) (at op : ℕ) (behind : List ℕ) (r : Row) (o : Option Form) → Some r ≡ option_map (row_of part) o
    → (name_of r.mnemonic ++ operand_text at r.mode (slice_index behind 0) (slice_index behind 1) ++ codes "\n" ≡ line_text at op behind o)
    × (1 ≤ r.bytes) × (r.bytes - 1 ≡ bytes_behind o)
row_line part at op behind r None e = cc
row_line part at op behind r (Some f) e = let same : r ≡ row_of part f = cc in rw same (refl, some_bytes f.mode, refl)

-- the lines after bytes that belong to the line before them
lines_skip : (part : Part) (at skip : ℕ) (bytes : List ℕ) → skip ≤ length bytes
    → lines_from part at skip bytes ≡ lines_from part (at + skip) 0 (drop skip bytes)
lines_skip part at zero bytes h = let e : at + 0 ≡ at = omega arith in rw e
lines_skip part at (suc skip) [] h = absurd (omega arith)
lines_skip part at (suc skip) (b ∷ bytes) h =
    let e : at + suc skip ≡ (at + 1) + skip = omega arith in
    rw e (lines_skip part (at + 1) skip bytes (omega arith))

-- the text written and the lines left, after one more line
pub one_line : (part : Part) (at op n : ℕ) (text behind : List ℕ) → n ≡ bytes_behind (form_here part op behind) → n ≤ length behind
    → (text ++ line_text at op behind (form_here part op behind))
    ++ lines_from part (at + (1 + n)) 0 (take (length behind - n) (drop n behind))
    ≡ text ++ lines_from part at 0 (op ∷ behind)
one_line part at op n text behind e h =
    let place : at + (1 + n) ≡ (at + 1) + n = omega arith in
    rw (take_rest behind n, place, ← lines_skip part (at + 1) n behind h, append_assoc, e)
