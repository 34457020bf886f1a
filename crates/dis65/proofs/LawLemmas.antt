-- The bytes that the assembler makes of a disassembly are those that were disassembled.
use Rattle.std.proofs.Common.{◌≡◌, ℕ, zero, suc, ◌+◌, ◌≤◌, ◌<◌, List, [], ◌∷◌, ◌++◌, length, take, drop, map, refl, ap, ◌∙◌, Option, None, Ok, zero-le, arith}
use Rattle.std.specs.List.{concat}
use Rattle.std.proofs.lemmas.List.{take-append-drop, length-take-le}
use Rattle.op_table.specs.declared.Part.{Part}
use Rattle.op_table.specs.Forms.{forms, form_at}
use Rattle.asm_lines.specs.Syntax.{Line, Statement, parsed_text}
use Rattle.asm65.specs.Placement.{Placed, placed_from, placement, origin_of, after_line, first_pass}
use Rattle.asm65.specs.Source.{Labels, labels_of, second_pass, line_bytes, program_of, source}
use Rattle.dis65.specs.Listing.{form_here, bytes_behind, decode}
use Rattle.dis65.specs.Meaning.{DecodeMeansItsBytes}
use Rattle.dis65.proofs.LineLemmas.{passed_fits}
use Rattle.dis65.proofs.ReadLemmas.{AreBytes, are_bytes, unlabelled, listed, parsed_decode}
use Rattle.dis65.proofs.PlacedLemmas.{IsSound, org_is_sound, line_is_sound}

-- neither pass finds a fault in placed lines, which make these bytes
record AreSound (part : Part) (placed : List Placed) (made : List ℕ) : Type 0 where
  first : (row : ℕ) (names : List (List ℕ)) → first_pass part row names placed ≡ None
  second : (row : ℕ) (labels : Labels) → second_pass part row labels placed ≡ None
  makes : (labels : Labels) → concat (map (λ p. line_bytes part labels p.address p.line) placed) ≡ made

-- no lines
none_sound : (part : Part) → AreSound part [] []
none_sound part = record { first = λ row names. refl; second = λ row labels. refl; makes = λ labels. refl }

-- a line at the front
more_sound : (part : Part) (at : ℕ) (s : Statement) (made rest : List ℕ) (lines : List (Option Line))
    → IsSound part at s made → AreSound part (placed_from part (at + length made) lines) rest
    → AreSound part (placed_from part at (unlabelled s ∷ lines)) (made ++ rest)
more_sound part at s made rest lines here behind =
    let next : after_line part at (unlabelled s) ≡ at + length made = here.next in
    let all : AreSound part (placed_from part (after_line part at (unlabelled s)) lines) rest = rw next behind in
    record {
      first = λ row names. rw (here.first row names) (all.first (row + 1) (names ++ []));
      second = λ row labels. rw (here.second row labels) (all.second (row + 1) labels);
      makes = λ labels. rw (here.makes labels) (ap (λ l. made ++ l) (all.makes labels));
    }

-- all lines of bytes from an address on
listed_sound : (part : Part) (at skip : ℕ) (xs : List ℕ) → AreBytes xs → skip ≤ length xs → at + length xs ≤ 65536
    → AreSound part (placed_from part (at + skip) (listed part at skip xs)) (drop skip xs)
listed_sound part at zero [] all h fits = none_sound part
listed_sound part at (suc skip) [] all h fits = none_sound part
listed_sound part at (suc skip) (b ∷ xs) all h fits =
    let place : at + suc skip ≡ (at + 1) + skip = omega arith in
    rw place (listed_sound part (at + 1) skip xs (λ k. all (suc k)) (omega arith) (omega arith))
listed_sound part at zero (op ∷ xs) all h fits =
    let n = bytes_behind (form_here part op xs) in
    let within : n ≤ length xs = passed_fits (length xs) (form_at (forms part) op) in
    let tail = λ (k : ℕ). all (suc k) in
    let here = line_is_sound part at op xs (all 0) tail (omega arith) in
    let rest = listed_sound part (at + 1) n xs tail within (omega arith) in
    let taken = length-take-le n xs within in
    let place : (at + 1) + n ≡ at + length (op ∷ take n xs) = omega arith in
    let lines = more_sound part at _ _ (drop n xs) (listed part (at + 1) n xs) here (rw (← place) rest) in
    let made : (op ∷ take n xs) ++ drop n xs ≡ op ∷ xs = ap (λ l. op ∷ l) (take-append-drop n xs) in
    let begin : at ≡ at + 0 = omega arith in
    rw (← begin, ← made) lines

-- the meaning of such lines
program_sound : (part : Part) (origin : ℕ) (placed : List Placed) (made : List ℕ) → AreSound part placed made
    → program_of part origin placed ≡ Ok (origin, made)
program_sound part origin placed made s =
    let labels = labels_of placed in
    rw (s.first 1 [], s.second 1 labels, s.makes labels) refl

-- the law, where each byte is one by its place
pub text_means : (part : Part) (origin : ℕ) (xs text : List ℕ) → text ≡ decode part xs origin → origin < 65536
    → AreBytes xs → origin + length xs ≤ 65536 → source part text ≡ Ok (origin, xs)
unfolding source
text_means part origin xs text e h all fits =
    let rest = listed_sound part origin 0 xs all zero-le fits in
    let lines = more_sound part origin _ [] xs (listed part origin 0 xs) (org_is_sound part origin h) rest in
    ap (λ ls. program_of part (origin_of ls) (placement part ls)) (ap parsed_text e ∙ parsed_decode part origin xs h all)
    ∙ program_sound part origin _ xs lines

pub decode_means : DecodeMeansItsBytes
decode_means part origin xs h all = text_means part origin xs _ refl h (are_bytes xs all)
