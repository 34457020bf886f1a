-- The forms of a part and the rows of its opcodes agree.
use Rattle.std.proofs.Common.{◌≡◌, ℕ, ◌<◌, ◌↔◌, List, [], ◌∷◌, refl, ap, sym, ◌∙◌, Option, Some, None, Bool, true, false}
use Rattle.std.proofs.Common.{eqb, ltb, ◌&&◌, MatchOption, IsSome, Any, eqb-true, is_some, eq-eqb, ◌==◌, not, option_map, find, filter, IfSome, inl, inr}
use Rattle.std.specs.List.{list_all, list_any}
use Rattle.std.proofs.lemmas.Bool.{agree_below_at, ltb-true, and_parts, cases_Bool}
use Rattle.std.proofs.lemmas.List.Folds.{Any-from_list_any, list_any-from_Any}
use denote.Enum.Bare.{same_true}
use Rattle.op_table.specs.contracts.names.Mnemonic.{the_type as mnemonics}
use Rattle.op_table.specs.contracts.names.Mode.{the_type as modes}
use Rattle.op_table.specs.declared.names.Part.{Part}
use Rattle.op_table.specs.declared.names.Part.TheVariants.{Nmos, Cmos}
use Rattle.op_table.specs.declared.names.Mnemonic.{Mnemonic}
use Rattle.op_table.specs.declared.names.Mode.{Mode}
use Rattle.op_table.specs.declared.names.Mode.TheVariants.{Spare}
use Rattle.op_table.specs.declared.rows.Row.{Row}
use Rattle.op_table.specs.Names.{same_mnemonic, same_mode}
use Rattle.op_table.specs.Forms.{Form, forms, IsDocumented, form_at, find_form}
use Rattle.op_table.specs.Rows.{nmos_row, cmos_row, row_of, row_or_spare, unless_spare, documented_row, Names}

-- a row of this mnemonic in this mode
abbrev Fits : Mnemonic → Mode → Row → Type 0
Fits name way r = (r.mnemonic ≡ name) × (r.mode ≡ way)

-- ---- from a form to the row of its opcode

abbrev same_row : Mnemonic → Mode → Option Row → Bool
same_row name way None = false
same_row name way (Some r) = same_mnemonic r.mnemonic name && same_mode r.mode way

abbrev has_row : Part → Form → Bool
has_row part f = ltb f.opcode 256 && same_row f.mnemonic f.mode (documented_row part f.opcode)

-- the row of a form's opcode has the form's mnemonic and mode
all_have_rows : (part : Part) → list_all (has_row part) (forms part) ≡ true
unfolding cmos_row nmos_row
all_have_rows Nmos = refl
all_have_rows Cmos = refl

-- the result of the test of a row
row_fits : (name : Mnemonic) (way : Mode) (o : Option Row)
    → same_row name way o ≡ true → MatchOption o ⊥ (Fits name way)
row_fits name way None e = cc
row_fits name way (Some r) e =
    let parts = and_parts (same_mnemonic r.mnemonic name) (same_mode r.mode way) e in
    (same_true mnemonics tt r.mnemonic name parts.0, same_true modes tt r.mode way parts.1)

-- a form with such a row names it
Names-form : (part : Part) (f : Form) → has_row part f ≡ true → Names part f.mnemonic f.mode f.opcode
Names-form part f e =
    let parts = and_parts (ltb f.opcode 256) (same_row f.mnemonic f.mode (documented_row part f.opcode)) e in
    (ltb-true f.opcode 256 parts.0, row_fits f.mnemonic f.mode (documented_row part f.opcode) parts.1)

-- the opcode that `find_form` gives, among any forms
abbrev found : Mnemonic → Mode → List Form → Option ℕ
found name way fs =
    option_map (λ f. f.opcode) (find (λ f. same_mode f.mode way) (filter (λ f. same_mnemonic f.mnemonic name) fs))

named_by : (part : Part) (name : Mnemonic) (way : Mode) (f : Form) (op : ℕ)
    → has_row part f ≡ true → same_mnemonic f.mnemonic name ≡ true → same_mode f.mode way ≡ true → f.opcode ≡ op
    → Names part name way op
named_by part name way f op h same_name same_way e =
    rw (← e, ← same_true mnemonics tt f.mnemonic name same_name, ← same_true modes tt f.mode way same_way) (Names-form part f h)

Names-found : (part : Part) (name : Mnemonic) (way : Mode) (op : ℕ) (fs : List Form)
    → list_all (has_row part) fs ≡ true → found name way fs ≡ Some op → Names part name way op
Names-found part name way op [] h e = cc
Names-found part name way op (f ∷ fs) h e =
    let parts = and_parts (has_row part f) (list_all (has_row part) fs) h in
    let rest = Names-found part name way op fs parts.1 in
    -- the first form is the one, is in another mode, or has another mnemonic
    elim (cases_Bool (same_mnemonic f.mnemonic name)) [
      | inl p ↦ elim (cases_Bool (same_mode f.mode way)) [
        | inl q ↦ let here : Some f.opcode ≡ Some op = rw (p, q) at e in let same : f.opcode ≡ op = cc in named_by part name way f op parts.0 p q same
        | inr q ↦ rest (rw (p, q) at e)
      ]
      | inr p ↦ rest (rw p at e)
    ]

-- ---- from the row of an opcode to its form

abbrev gives : Option ℕ → ℕ → Bool
gives None op = false
gives (Some k) op = eqb k op

gives-true : (o : Option ℕ) (op : ℕ) → gives o op ≡ true → o ≡ Some op
gives-true None op e = cc
gives-true (Some k) op e = ap Some (eqb-true k op e)

abbrev leads_back : Part → Option Row → ℕ → Bool
leads_back part None op = true
leads_back part (Some r) op = gives (find_form part r.mnemonic r.mode) op

-- the form of an opcode's row has that opcode
all_lead_back : (part : Part) (op : ℕ) → op < 256 → leads_back part (documented_row part op) op ≡ true
unfolding cmos_row nmos_row find_form
all_lead_back Nmos op h = agree_below_at (λ k. leads_back Nmos (documented_row Nmos k) k) (λ _. true) 256 op refl h
all_lead_back Cmos op h = agree_below_at (λ k. leads_back Cmos (documented_row Cmos k) k) (λ _. true) 256 op refl h

from_row : (part : Part) (name : Mnemonic) (way : Mode) (o : Option Row) (op : ℕ)
    → MatchOption o ⊥ (Fits name way) → leads_back part o op ≡ true → find_form part name way ≡ Some op
from_row part name way None op m e = absurd m
from_row part name way (Some r) op m e =
    rw (← m.0, ← m.1) (gives-true _ op e)

find_form-Names : (part : Part) (name : Mnemonic) (way : Mode) (op : ℕ)
    → Names part name way op → find_form part name way ≡ Some op
find_form-Names part name way op n =
    from_row part name way (documented_row part op) op n.1 (all_lead_back part op n.0)

Names-find_form : (part : Part) (name : Mnemonic) (way : Mode) (op : ℕ)
    → find_form part name way ≡ Some op → Names part name way op
unfolding find_form
Names-find_form part name way op e = Names-found part name way op (forms part) (all_have_rows part) e

pub find_form-iff : (part : Part) (name : Mnemonic) (way : Mode) (op : ℕ)
    → (find_form part name way ≡ Some op) ↔ Names part name way op
find_form-iff part name way op = (Names-find_form part name way op, find_form-Names part name way op)

-- the naming by a call that gave this form's opcode
pub find_form-named : (part p : Part) (name : Mnemonic) (way : Mode) (r : Option ℕ)
    → part ≡ p → r ≡ find_form p name way → (op : ℕ) → (r ≡ Some op) ↔ Names part name way op
find_form-named part p name way r same e op =
    let law = find_form-iff part name way op in
    let given : r ≡ find_form part name way = cc in
    (λ q. law.0 (sym given ∙ q), λ n. given ∙ law.1 n)

-- ---- the opcodes of the NMOS part are those of the 65C02 that it has

abbrev is_same : Option Row → Option Row → Bool
is_same None o = true
is_same (Some r) o = same_row r.mnemonic r.mode o

-- an opcode of the NMOS part has the same row on the 65C02
all_same : (op : ℕ) → op < 256 → is_same (documented_row Nmos op) (documented_row Cmos op) ≡ true
unfolding cmos_row nmos_row
all_same op h = agree_below_at (λ k. is_same (documented_row Nmos k) (documented_row Cmos k)) (λ _. true) 256 op refl h

same_fits : (name : Mnemonic) (way : Mode) (a b : Option Row)
    → is_same a b ≡ true → MatchOption a ⊥ (Fits name way) → MatchOption b ⊥ (Fits name way)
same_fits name way None b e m = absurd m
same_fits name way (Some r) b e m =
    rw (← m.0, ← m.1) (row_fits r.mnemonic r.mode b e)

Names-Cmos : (name : Mnemonic) (way : Mode) (op : ℕ) → Names Nmos name way op → Names Cmos name way op
Names-Cmos name way op n =
    (n.0, same_fits name way (documented_row Nmos op) (documented_row Cmos op) (all_same op n.0) n.1)

same_back : (name : Mnemonic) (way : Mode) (r : Row) (b : Option Row)
    → is_same (Some r) b ≡ true → MatchOption b ⊥ (Fits name way) → Fits name way r
same_back name way r None e m = absurd m
same_back name way r (Some s) e m =
    let fits = row_fits r.mnemonic r.mode (Some s) e in
    (sym fits.0 ∙ m.0, sym fits.1 ∙ m.1)

Names-Nmos : (name : Mnemonic) (way : Mode) (op : ℕ) (o : Option Row)
    → nmos_row op ≡ o → true ≡ is_some o → Names Cmos name way op → Names Nmos name way op
Names-Nmos name way op None e s n = cc
Names-Nmos name way op (Some r) e s n =
    (n.0, rw e (same_back name way r (documented_row Cmos op) (rw e at (all_same op n.0)) n.1))

row_is_some : (name : Mnemonic) (way : Mode) (o : Option Row) → MatchOption o ⊥ (Fits name way) → true ≡ is_some o
row_is_some name way None m = absurd m
row_is_some name way (Some r) m = refl

none_if : (o : Option ℕ) → ((k : ℕ) → o ≡ Some k → ⊥) → None ≡ o
none_if None h = refl
none_if (Some k) h = absurd (h k refl)

-- A form found for the NMOS part is found for the 65C02, and the NMOS part has a row there.
Nmos-found : (name : Mnemonic) (way : Mode) (k : ℕ) → find_form Nmos name way ≡ Some k
    → (Some k ≡ find_form Cmos name way) × (true ≡ is_some (nmos_row k))
Nmos-found name way k e =
    let n = Names-find_form Nmos name way k e in
    (sym (find_form-Names Cmos name way k (Names-Cmos name way k n)), row_is_some name way (nmos_row k) n.1)

-- and the converse

pub find_form-Nmos : (name : Mnemonic) (way : Mode) (op : ℕ) (r : Option Row)
    → Some op ≡ find_form Cmos name way → r ≡ nmos_row op → true ≡ is_some r → Some op ≡ find_form Nmos name way
find_form-Nmos name way op r e at_op s =
    let n = Names-find_form Cmos name way op (sym e) in
    sym (find_form-Names Nmos name way op (Names-Nmos name way op r (sym at_op) s n))

pub find_form-Nmos_lacks : (name : Mnemonic) (way : Mode) (op : ℕ) (r : Option Row)
    → Some op ≡ find_form Cmos name way → r ≡ nmos_row op → false ≡ is_some r → None ≡ find_form Nmos name way
find_form-Nmos_lacks name way op r e at_op s =
    none_if (find_form Nmos name way) (λ k at_k.
    let both_parts = Nmos-found name way k at_k in
    let same : op ≡ k = cc (e, both_parts.0) in
    cc (at_op, s, both_parts.1, same))

pub find_form-Nmos_none : (name : Mnemonic) (way : Mode)
    → None ≡ find_form Cmos name way → None ≡ find_form Nmos name way
find_form-Nmos_none name way e =
    none_if (find_form Nmos name way) (λ k at_k. let found_k = (Nmos-found name way k at_k).0 in cc)

-- ---- an opcode has a row if a form has it

is_some-find : (p : Form → Bool) (fs : List Form) → is_some (find p fs) ≡ list_any p fs
is_some-find p [] = refl
is_some-find p (f ∷ fs) = elim (cases_Bool (p f)) [ inl e ↦ rw e | inr e ↦ rw e (is_some-find p fs) ]

mapped_some : (part : Part) (o : Option Form) → IsSome (option_map (row_of part) o) ↔ (is_some o ≡ true)
mapped_some part None = (λ s. cc, λ e. cc)
mapped_some part (Some f) = (λ s. refl, λ e. refl)

row_of-Any : (part : Part) (fs : List Form) (op : ℕ)
    → IsSome (option_map (row_of part) (form_at fs op)) ↔ Any (λ f. f.opcode ≡ op) fs
row_of-Any part fs op =
    let has = λ (f : Form). f.opcode == op in (
      (λ s. let found_at = Any-from_list_any has fs (sym (is_some-find has fs) ∙ (mapped_some part (find has fs)).0 s) in
          (found_at.0, found_at.1, found_at.2, found_at.3, eqb-true _ _ found_at.4)),
      (λ a. (mapped_some part (find has fs)).1
          (is_some-find has fs ∙ list_any-from_Any has fs (a.0, a.1, a.2, a.3, eq-eqb _ _ a.4))),
    )

pub form_row-IsDocumented : (part : Part) (op : ℕ) → IsSome (option_map (row_of part) (form_at (forms part) op)) ↔ IsDocumented part op
unfolding IsDocumented
form_row-IsDocumented part op = row_of-Any part (forms part) op

pub nmos_row-IsDocumented : (op : ℕ) → IsSome (nmos_row op) ↔ IsDocumented Nmos op
unfolding nmos_row
nmos_row-IsDocumented op = form_row-IsDocumented Nmos op

-- ---- the row of a documented opcode is that of its form

is_used : Form → Bool
is_used f = not (same_mode f.mode Spare)

-- no form has the mode Spare
all_used : list_all is_used (forms Cmos) ≡ true
unfolding is_used
all_used = refl

-- no form that is found has the mode Spare
found_used : (p : Form → Bool) (fs : List Form) → list_all is_used fs ≡ true → IfSome (find p fs) (λ f. is_used f ≡ true)
found_used p [] h = tt
found_used p (f ∷ fs) h =
    let parts = and_parts (is_used f) (list_all is_used fs) h in
    elim (cases_Bool (p f)) [ inl e ↦ rw e parts.0 | inr e ↦ rw e (found_used p fs parts.1) ]

used_row : (r : Row) (way : Mode) → not (same_mode way Spare) ≡ true → unless_spare r way ≡ Some r
used_row r Spare h = cc
used_row r way h = refl

unless_spare-form : (op : ℕ) (o : Option Form) → IfSome o (λ f. is_used f ≡ true)
    → unless_spare (row_or_spare op o) (row_or_spare op o).mode ≡ option_map (row_of Cmos) o
unfolding is_used
unless_spare-form op None h = refl
unless_spare-form op (Some f) h = used_row (row_of Cmos f) f.mode h

pub documented_row-form : (part : Part) (op : ℕ) → documented_row part op ≡ option_map (row_of part) (form_at (forms part) op)
unfolding nmos_row cmos_row
documented_row-form Nmos op = refl
documented_row-form Cmos op = unless_spare-form op (form_at (forms Cmos) op) (found_used (λ f. f.opcode == op) (forms Cmos) all_used)

-- the row of the opcode's form, for a spare row of the 65C02 and for any other
pub spare_row-form : (part : Part) (op : ℕ) (r : Row) → part ≡ Cmos → r ≡ cmos_row op → same_mode r.mode Spare ≡ true
    → None ≡ option_map (row_of part) (form_at (forms part) op)
spare_row-form part op r at e s = rw at (by_mode r r.mode (same_true modes tt r.mode Spare s) ∙ ap (λ (x : Row). unless_spare x x.mode) e ∙ documented_row-form Cmos op)
  where
    by_mode : (r : Row) (way : Mode) → way ≡ Spare → None ≡ unless_spare r way
    by_mode r way at = rw at refl

pub other_row-form : (part : Part) (op : ℕ) (r : Row) → part ≡ Cmos → r ≡ cmos_row op → same_mode r.mode Spare ≡ false
    → Some r ≡ option_map (row_of part) (form_at (forms part) op)
other_row-form part op r at e s = rw at (sym (used_row r r.mode (ap not s)) ∙ ap (λ (x : Row). unless_spare x x.mode) e ∙ documented_row-form Cmos op)

-- an opcode that is given the row of its form is documented
pub form_row-documented : (part : Part) (op : ℕ) (o : Option Row) → o ≡ option_map (row_of part) (form_at (forms part) op)
    → IsSome o ↔ IsDocumented part op
form_row-documented part op o e = rw e (form_row-IsDocumented part op)

-- an opcode has a spare row if no form has it
spare-iff : (r : Row) (way : Mode) → (way ≡ Spare) ↔ (¬ IsSome (unless_spare r way))
spare-iff r Spare = (λ e s. cc, λ none. refl)
spare-iff r way = (λ e. cc, λ none. absurd (none refl))

pub cmos_row-Spare : (op : ℕ) → ((cmos_row op).mode ≡ Spare) ↔ (¬ IsDocumented Cmos op)
cmos_row-Spare op =
    let spare = spare-iff (cmos_row op) (cmos_row op).mode in
    let documented = form_row-documented Cmos op (documented_row Cmos op) (documented_row-form Cmos op) in
    (λ e a. spare.0 e (documented.1 a), λ none. spare.1 (λ s. none (documented.0 s)))
