-- The bytes that the assembler makes of each line of a disassembly.
use Rattle.std.proofs.Common.{◌≡◌, ℕ, ◌+◌, ◌-◌, ◌*◌, ◌/◌, ◌%◌, ◌≤◌, ◌<◌, ◌==◌, List, [], ◌∷◌, length, take, map, refl}
use Rattle.std.proofs.Common.{ap, Option, Some, None, Bool, true, false, not, ◌&&◌, nat_le, nat_lt, eqb, eqb-true, find, inl, inr, arith}
use Rattle.std.specs.Prelude.{slice_index}
use Rattle.std.specs.List.{list_all, list_any}
use Rattle.std.proofs.lemmas.List.{length-take-le}
use Rattle.std.proofs.lemmas.Bool.{and_parts, not-true, cases_Bool, cases_lt, lt-ltb, le-ltb, le-leb, lt-leb, or_right}
use denote.Enum.Bare.{same_true}
use Rattle.op_table.specs.contracts.names.Mode.{the_type as modes}
use Rattle.op_table.specs.declared.Part.{Part}
use Rattle.op_table.specs.declared.Part.TheVariants.{Nmos, Cmos}
use Rattle.op_table.specs.declared.Mnemonic.{Mnemonic}
use Rattle.op_table.specs.declared.Mode.{Mode}
use Rattle.op_table.specs.declared.Mode.TheVariants.{Imp, Acc, Imm, Abs, AbsX, AbsY, Rel, Ind, IndAbsX, Spare}
use Rattle.op_table.specs.Names.{same_mode}
use Rattle.op_table.specs.Forms.{Form, forms, form_at, find_form}
use Rattle.op_table.specs.Rows.{bytes_of}
use Rattle.asm_lines.specs.Syntax.{Statement, org, bytes}
use Rattle.asm65.specs.Placement.{mode_of, operand_values, values_numbers, first_fault, after_line}
use Rattle.asm65.specs.Source.{Labels, is_unknown, value_in, operand_out, operand_bytes, second_fault, line_bytes, distance, is_near}
use Rattle.dis65.specs.Listing.{target, form_here, bytes_behind}
use Rattle.dis65.proofs.LineLemmas.{whole_form, some_bytes}
use Rattle.dis65.proofs.ReadLemmas.{plain, is_small, number_at, operand_by, AreBytes, unlabelled, statement_at}

-- the distance of a branch from its target is near, and its byte is the operand
branch_back : (at far : ℕ) → at < 65536 → far < 256
    → (is_near (distance at (target at far)) ≡ true) × (distance at (target at far) % 256 ≡ far)
branch_back at far h d = elim (cases_lt far 128) [ inl low ↦ ahead low | inr high ↦ back high ]
  where
    ahead : far < 128 → (is_near (distance at (target at far)) ≡ true) × (distance at (target at far) % 256 ≡ far)
    ahead low =
        let is = lt-ltb far 128 low in
        let there : (65536 + (at + 2 + far) % 65536 - (at + 2) % 65536) % 65536 ≡ far = omega arith in
        rw (is, there, is) (refl, omega arith)

    back : 128 ≤ far → (is_near (distance at (target at far)) ≡ true) × (distance at (target at far) % 256 ≡ far)
    back high =
        let there : (65536 + (at + 2 + (65280 + far)) % 65536 - (at + 2) % 65536) % 65536 ≡ 65280 + far = omega arith in
        let near = or_right (nat_lt (65280 + far) 128) (nat_le 65408 (65280 + far)) (le-leb 65408 (65280 + far) (omega arith)) in
        rw (le-ltb far 128 high, there) (near, omega arith)

-- ---- the form of an opcode

-- A form found by one test passes it, and passes another that all pass.
found_passes : (p q : Form → Bool) (fs : List Form) (f : Form) → list_all q fs ≡ true → find p fs ≡ Some f → (p f ≡ true) × (q f ≡ true)
found_passes p q [] f h e = cc
found_passes p q (g ∷ fs) f h e =
    let parts = and_parts (q g) (list_all q fs) h in
    elim (cases_Bool (p g)) [
      | inl is ↦ let here = rw is at e in let same : f ≡ g = cc in rw same (is, parts.0)
      | inr other ↦ found_passes p q fs f parts.1 (rw other at e)
    ]

-- the form that was found
abbrev is_mode : Option Mode → Mode → Bool
is_mode None way = false
is_mode (Some w) way = same_mode w way

abbrev is_op : Option ℕ → ℕ → Bool
is_op None op = false
is_op (Some k) op = eqb k op

-- the assembler takes the form's mode and opcode for its operand
abbrev comes_back : Part → Form → Bool
comes_back part f =
    is_mode (mode_of part f.mnemonic (operand_by f.mode (plain 0 (is_small f.mode)))) f.mode
    && (is_op (find_form part f.mnemonic f.mode) f.opcode && not (same_mode f.mode Spare))

-- each form of a part does so
all_come_back : (part : Part) → list_all (comes_back part) (forms part) ≡ true
unfolding find_form
all_come_back Nmos = refl
all_come_back Cmos = refl

-- the mode depends on the operand's form and size, not on its number
same_at : (part : Part) (name : Mnemonic) (way : Mode) (small : Bool) (n : ℕ)
    → mode_of part name (operand_by way (plain 0 small)) ≡ mode_of part name (operand_by way (plain n small))
same_at part name Imp small n = refl
same_at part name _ small n = refl

-- the results of those tests
is_mode-true : (o : Option Mode) (way : Mode) → is_mode o way ≡ true → o ≡ Some way
is_mode-true None way e = cc
is_mode-true (Some w) way e = ap Some (same_true modes tt w way e)

is_op-true : (o : Option ℕ) (op : ℕ) → is_op o op ≡ true → o ≡ Some op
is_op-true None op e = cc
is_op-true (Some k) op e = ap Some (eqb-true k op e)

-- the assembler's mode and opcode for the form of an opcode
record TakenBack (part : Part) (op : ℕ) (f : Form) : Type 0 where
  mode : (n : ℕ) → mode_of part f.mnemonic (operand_by f.mode (plain n (is_small f.mode))) ≡ Some f.mode
  opcode : find_form part f.mnemonic f.mode ≡ Some op
  used : same_mode f.mode Spare ≡ false

-- the form of each opcode does so
taken_back : (part : Part) (op : ℕ) (f : Form) → form_at (forms part) op ≡ Some f → TakenBack part op f
taken_back part op f e =
    let passes = found_passes (λ x. x.opcode == op) (comes_back part) (forms part) f (all_come_back part) e in
    let a = and_parts (is_mode (mode_of part f.mnemonic (operand_by f.mode (plain 0 (is_small f.mode)))) f.mode) _ passes.1 in
    let b = and_parts (is_op (find_form part f.mnemonic f.mode) f.opcode) (not (same_mode f.mode Spare)) a.1 in
    let same : f.opcode ≡ op = eqb-true f.opcode op passes.0 in
    record {
      mode = λ n. rw (← same_at part f.mnemonic f.mode (is_small f.mode) n) (is_mode-true _ f.mode a.0);
      opcode = rw (← same) (is_op-true _ f.opcode b.0);
      used = not-true _ b.1;
    }

-- neither pass finds a fault in the line of a statement at an address, which makes these bytes
pub record IsSound (part : Part) (at : ℕ) (s : Statement) (made : List ℕ) : Type 0 where
  pub first : (row : ℕ) (names : List (List ℕ)) → first_fault part row names at (unlabelled s) ≡ None
  pub second : (row : ℕ) (labels : Labels) → second_fault part row labels at (unlabelled s) ≡ None
  pub makes : (labels : Labels) → line_bytes part labels at (unlabelled s) ≡ made
  pub next : after_line part at (unlabelled s) ≡ at + length made

-- the first line
pub org_is_sound : (part : Part) (n : ℕ) → n < 65536 → IsSound part n (org (record { value = n; byte_sized = false })) []
org_is_sound part n h =
    let here = le-ltb n n (omega arith) in
    let low = le-ltb 65535 n (omega arith) in
    let within = le-ltb 65536 (n + 0) (omega arith) in
    let none : n - n ≡ 0 = omega arith in
    record {
      first = λ row names. rw (here, low, within) refl;
      second = λ row labels. refl;
      makes = λ labels. rw none refl;
      next = omega arith;
    }

-- the line of a byte
byte_is_sound : (part : Part) (at op : ℕ) → op < 256 → at + 1 ≤ 65536 → IsSound part at (bytes (plain op true ∷ [])) (op ∷ [])
byte_is_sound part at op h fits =
    let low = le-ltb 65535 op (omega arith) in
    let within = le-ltb 65536 (at + 1) fits in
    let small = lt-leb 256 op h in
    let word = lt-leb 65536 op (omega arith) in
    record {
      first = λ row names. rw (low, within) refl;
      second = λ row labels. rw (word, small) refl;
      makes = λ labels. refl;
      next = refl;
    }

-- ---- the operand of an instruction

-- its number is in range
number_below : (at : ℕ) (way : Mode) (l h : ℕ) → l < 256 → h < 256 → number_at at way l h < 65536
number_below at Rel l h a b = omega arith
number_below at _ l h a b = omega arith

-- and the first pass finds it in range
numbers_fit : (way : Mode) (n : ℕ) (small : Bool) → nat_lt 65535 n ≡ false
    → list_any (λ k. nat_lt 65535 k) (values_numbers (operand_values (operand_by way (plain n small)))) ≡ false
numbers_fit Imp n small e = refl
numbers_fit Acc n small e = refl
numbers_fit Spare n small e = refl
numbers_fit _ n small e = rw e refl

-- it names no label
known : (labels : Labels) (way : Mode) (n : ℕ) (small : Bool)
    → list_any (is_unknown labels) (operand_values (operand_by way (plain n small))) ≡ false
known labels Imp n small = refl
known labels _ n small = refl

-- and the second pass finds it in the range of its mode
operand_fits : (labels : Labels) (at : ℕ) (way : Mode) (l h : ℕ) → at < 65536 → l < 256 → h < 256
    → operand_out labels at (Some way) (operand_by way (plain (number_at at way l h) (is_small way))) ≡ false
operand_fits labels at Imp l h p a b = refl
operand_fits labels at Acc l h p a b = refl
operand_fits labels at Spare l h p a b = refl
operand_fits labels at Imm l h p a b = rw (lt-leb 65536 l (omega arith), lt-leb 256 l a) refl
operand_fits labels at Rel l h p a b = rw (lt-leb 65536 (target at l) (omega arith), (branch_back at l p a).0) refl
operand_fits labels at way l h p a b = rw (lt-leb 65536 (number_at at way l h) (number_below at way l h a b)) refl

-- the one byte of an operand
take_one : (xs : List ℕ) → 1 ≤ length xs → slice_index xs 0 ∷ [] ≡ take 1 xs
take_one [] h = absurd (omega arith)
take_one (b ∷ xs) h = refl

-- and the two
take_two : (xs : List ℕ) → AreBytes xs → 2 ≤ length xs
    → (slice_index xs 0 + 256 * slice_index xs 1) % 256 ∷ (slice_index xs 0 + 256 * slice_index xs 1) / 256 ∷ [] ≡ take 2 xs
take_two [] all h = absurd (omega arith)
take_two (b ∷ []) all h = absurd (omega arith)
take_two (b ∷ c ∷ xs) all h =
    let fits : b < 256 = all 0 in
    let low : (b + 256 * c) % 256 ≡ b = omega arith in
    let high : (b + 256 * c) / 256 ≡ c = omega arith in
    rw (low, high)

-- it makes the bytes after the opcode
operand_makes : (labels : Labels) (at : ℕ) (way : Mode) (xs : List ℕ) → same_mode way Spare ≡ false → at < 65536 → AreBytes xs
    → bytes_of way ≤ length xs + 1
    → operand_bytes at way (map (value_in labels) (operand_values (operand_by way (plain (number_at at way (slice_index xs 0) (slice_index xs 1)) (is_small way)))))
    ≡ take (bytes_of way - 1) xs
operand_makes labels at Imp xs u p all h = refl
operand_makes labels at Acc xs u p all h = refl
operand_makes labels at Spare xs u p all h = cc
operand_makes labels at Abs xs u p all h = take_two xs all (omega arith)
operand_makes labels at AbsX xs u p all h = take_two xs all (omega arith)
operand_makes labels at AbsY xs u p all h = take_two xs all (omega arith)
operand_makes labels at Ind xs u p all h = take_two xs all (omega arith)
operand_makes labels at IndAbsX xs u p all h = take_two xs all (omega arith)
operand_makes labels at Rel xs u p all h = rw (branch_back at (slice_index xs 0) p (all 0)).1 (take_one xs (omega arith))
operand_makes labels at _ xs u p all h = take_one xs (omega arith)

-- ---- a line

-- the line of an instruction
instruction_is_sound : (part : Part) (at op : ℕ) (xs : List ℕ) (f : Form) → TakenBack part op f → AreBytes xs
    → bytes_of f.mode ≤ length xs + 1 → at + (length xs + 1) ≤ 65536
    → IsSound part at (statement_at at op xs (Some f)) (op ∷ take (bytes_of f.mode - 1) xs)
instruction_is_sound part at op xs f t all size fits =
    let l = slice_index xs 0 in
    let h = slice_index xs 1 in
    let n = number_at at f.mode l h in
    let number = number_below at f.mode l h (all 0) (all 1) in
    let way = t.mode n in
    let low = numbers_fit f.mode n (is_small f.mode) (le-ltb 65535 n (omega arith)) in
    let within = le-ltb 65536 (at + bytes_of f.mode) (omega arith) in
    let one = some_bytes f.mode in
    let behind = length-take-le (bytes_of f.mode - 1) xs (omega arith) in
    record {
      first = λ row names. rw (way, low, within) refl;
      second = λ row labels.
          let no_label = known labels f.mode n (is_small f.mode) in
          let in_range = operand_fits labels at f.mode l h (omega arith) (all 0) (all 1) in
          rw (no_label, way, in_range) refl;
      makes = λ labels. rw (way, t.opcode) (ap (λ m. op ∷ m) (operand_makes labels at f.mode xs t.used (omega arith) all size));
      next = rw way (omega arith);
    }

-- the line of an opcode
pub line_is_sound : (part : Part) (at op : ℕ) (xs : List ℕ) → op < 256 → AreBytes xs → at + (length xs + 1) ≤ 65536
    → IsSound part at (statement_at at op xs (form_here part op xs)) (op ∷ take (bytes_behind (form_here part op xs)) xs)
line_is_sound part at op xs h all fits = by_form (form_here part op xs) refl
  where
    by_form : (o : Option Form) → form_here part op xs ≡ o → IsSound part at (statement_at at op xs o) (op ∷ take (bytes_behind o) xs)
    by_form None e = byte_is_sound part at op h (omega arith)
    by_form (Some f) e =
        let whole = whole_form (length xs + 1) (form_at (forms part) op) f e in
        instruction_is_sound part at op xs f (taken_back part op f whole.0) all whole.1 fits
