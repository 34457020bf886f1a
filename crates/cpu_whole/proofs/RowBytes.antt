-- A row has the bytes of its mode.
use Rattle.std.proofs.Common.{◌≡◌, ℕ, List, [], ◌∷◌, Option, Some, None, IfSome, find, refl, sym, ap, subst, ◌∙◌, Bool, true, false, not, ◌&&◌, ◌||◌, ◌==◌, eqb, eqb-true}
use Rattle.std.specs.List.{list_all}
use Rattle.std.specs.Prelude.{option_map}
use Rattle.op_table.specs.declared.names.Mode.TheVariants.{Acc, Spare}
use Rattle.op_table.specs.declared.names.Part.{Part}
use Rattle.op_table.specs.declared.names.Part.TheVariants.{Nmos, Cmos}
use Rattle.op_table.specs.declared.rows.Row.{Row}
use Rattle.op_table.specs.Forms.{Form, forms, form_at}
use Rattle.op_table.specs.Rows.{bytes_of, row_of, row_or_spare, nmos_row, cmos_row}
use Rattle.cpu_alu.specs.declared.uses.BusUse.{BusUse}
use Rattle.cpu_alu.specs.declared.uses.BusUse.TheVariants.{Implied, Pulls, Pushes}
use Rattle.cpu_alu.specs.Instructions.{bus_use}
use Rattle.cpu_core.specs.Accesses.{row_at}
use Rattle.cpu_whole.specs.CodeWays.{is_modifying}

-- an instruction whose use leaves no room for an operand has one byte
abbrev pub is_alone : BusUse → Bool
is_alone Implied = true
is_alone Pushes = true
is_alone Pulls = true
is_alone _ = false

abbrev is_short : Form → Bool
is_short f = not (is_alone (bus_use f.mnemonic)) || eqb (bytes_of f.mode) 1

-- each form of both parts has them too
all_short : (part : Part) → list_all is_short (forms part) ≡ true
all_short Nmos = refl
all_short Cmos = refl

both : (a b : Bool) → (a && b) ≡ true → (a ≡ true) × (b ≡ true)
both true true e = (refl, refl)
both true false e = cc
both false b e = cc

-- and a form that is found has them
found_short : (p : Form → Bool) (fs : List Form) → list_all is_short fs ≡ true → IfSome (find p fs) (λ f. is_short f ≡ true)
found_short p [] h = tt
found_short p (f ∷ fs) h = let parts = both (is_short f) (list_all is_short fs) h in first p f fs parts.0 (found_short p fs parts.1) (p f) refl
  where
    first : (p : Form → Bool) (f : Form) (fs : List Form) → is_short f ≡ true → IfSome (find p fs) (λ g. is_short g ≡ true)
        → (b : Bool) → p f ≡ b → IfSome (find p (f ∷ fs)) (λ g. is_short g ≡ true)
    first p f fs short rest true e = rw e short
    first p f fs short rest false e = rw e rest

-- A row is that of a form, except for an opcode of the 65C02 without one, which has no operand.
formed : (part : Part) (op : ℕ) (row : Row) → row_at part op ≡ Some row → (row.mode ≡ Spare → bus_use row.mnemonic ≡ Implied → ⊥)
    → (f : Form) × ((is_short f ≡ true) × (row_of part f ≡ row))
unfolding nmos_row cmos_row
formed Nmos op row decoded apart = by (form_at (forms Nmos) op) (found_short (λ f. f.opcode == op) (forms Nmos) (all_short Nmos)) decoded
  where
    by : (o : Option Form) → IfSome o (λ f. is_short f ≡ true) → option_map (row_of Nmos) o ≡ Some row → (f : Form) × ((is_short f ≡ true) × (row_of Nmos f ≡ row))
    by (Some f) short is = (f, (short, cc))
    by None short is = cc
formed Cmos op row decoded apart = by (form_at (forms Cmos) op) (found_short (λ f. f.opcode == op) (forms Cmos) (all_short Cmos)) decoded
  where
    by : (o : Option Form) → IfSome o (λ f. is_short f ≡ true) → Some (row_or_spare op o) ≡ Some row → (f : Form) × ((is_short f ≡ true) × (row_of Cmos f ≡ row))
    by (Some f) short is = (f, (short, cc))
    by None short is =
        let same : row_or_spare op None ≡ row = cc in
        absurd (apart (sym (ap (λ (r : Row). r.mode) same)) (sym (ap (λ (r : Row). bus_use r.mnemonic) same)))

pub of_accumulator : (part : Part) (op : ℕ) {row : Row} → row_at part op ≡ Some row → is_modifying (bus_use row.mnemonic) ≡ true → row.mode ≡ Acc → row.bytes ≡ 1
of_accumulator part op {row} decoded uses mode =
    let form = formed part op row decoded (λ spare e. let no : Spare ≡ Acc = sym spare ∙ mode in cc) in
    subst (λ (r : Row). r.bytes ≡ bytes_of r.mode) form.1.1 refl ∙ ap bytes_of mode

pub of_alone : (part : Part) (op : ℕ) {row : Row} → row_at part op ≡ Some row → is_alone (bus_use row.mnemonic) ≡ true
    → (row.mode ≡ Spare → bus_use row.mnemonic ≡ Implied → ⊥) → row.bytes ≡ 1
of_alone part op {row} decoded alone apart =
    let form = formed part op row decoded apart in
    let f : Form = form.0 in
    sym (ap (λ (r : Row). r.bytes) form.1.1)
    ∙ one (is_alone (bus_use f.mnemonic)) (bytes_of f.mode) (ap (λ (r : Row). is_alone (bus_use r.mnemonic)) form.1.1 ∙ alone) form.1.0
  where
    one : (b : Bool) (n : ℕ) → b ≡ true → (not b || eqb n 1) ≡ true → n ≡ 1
    one true n e h = eqb-true n 1 h
    one false n e h = cc
