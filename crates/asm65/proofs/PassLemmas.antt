-- The first pass line by line, and its labels: in a map, in a list, and by name alone.
use Rattle.std.proofs.Common.{◌≡◌, ◌∙◌, sym, refl, ap, ℕ, List, [], ◌∷◌, ◌++◌, map, Bool, true, false}
use Rattle.std.proofs.Common.{cond, Option, Some, is_some, ◌||◌, option_map, not, option_to_list, inl, inr, ◌+◌, None, append_assoc, arith, ◌⊎◌}
use Rattle.std.specs.Borrow.{Bor}
use Rattle.std.specs.List.{list_any}
use Rattle.std.specs.Map.{lookup}
use Rattle.std.specs.BTreeMap.{BTreeMap, is_at, UpdatesBy}
use Rattle.std.specs.Ordering.{nat_cmp}
use Rattle.std.specs.Str.{bytes_eq}
use Rattle.std.specs.Cmp.Lexicographic.{slice_cmp}
use Rattle.std.proofs.lemmas.Bool.{or_parts, cases_Bool}
use Rattle.std.proofs.lemmas.Bool.Decides.{same_from_decides}
use Rattle.std.proofs.lemmas.Slice.Eq.{bytes_eq-Decides}
use Rattle.std.proofs.lemmas.Map.Text.{is_eq-slice_cmp, btree_map_updates_str}
use Rattle.std.proofs.Math.Path.{fun_ext}
use Rattle.std.proofs.lemmas.List.{map-append}
use Rattle.op_table.specs.declared.Part.{Part}
use Rattle.asm_lines.specs.Syntax.{Line}
use Rattle.asm65.specs.Placement.{is_among, Placed, line_names, formless, is_past, is_long, first_fault, first_pass, after_line, placed_from}
use Rattle.asm65.specs.Source.{Labels, value_of_label, label_with, labels_of, line_labels}
use Rattle.asm65.specs.CodeLabels.{labels_in, names_in, seen_name}
use Rattle.asm65.specs.declared.AsmError.{AsmError}
use Rattle.asm65.specs.Passes.{IsPlaced}

-- the names of labels
abbrev pub names : Labels → List (List ℕ)
names labels = map (λ l. l.0) labels

-- the value of a map at a name
abbrev looked_up : List ℕ → List (Bor (List ℕ) × ℕ) → Option ℕ
looked_up name es = lookup (is_at (λ k. slice_cmp nat_cmp name k.now)) es

abbrev seen : List (Bor (List ℕ) × ℕ) → Labels
seen es = map (λ e. (e.0.now, e.1)) es

pub looked_up-seen : (name : List ℕ) (es : List (Bor (List ℕ) × ℕ)) → looked_up name es ≡ value_of_label (seen es) name
looked_up-seen name [] = refl
looked_up-seen name (e ∷ es) = rw (is_eq-slice_cmp name e.0.now, looked_up-seen name es) refl

some_either : (b : Bool) (n : ℕ) (o : Option ℕ) → is_some (cond b (Some n) o) ≡ (b || is_some o)
some_either true n o = refl
some_either false n o = refl

pub is_some-looked_up : (name : List ℕ) (es : List (Bor (List ℕ) × ℕ)) → is_some (looked_up name es) ≡ is_among (map (λ e. e.0.now) es) name
is_some-looked_up name [] = refl
is_some-looked_up name (e ∷ es) = rw (is_eq-slice_cmp name e.0.now, ← is_some-looked_up name es) (some_either (bytes_eq name e.0.now) e.1 (looked_up name es))

pub is_among-names : (name : List ℕ) (labels : Labels) → is_among (names labels) name ≡ is_some (value_of_label labels name)
is_among-names name [] = refl
is_among-names name (l ∷ labels) = rw (is_among-names name labels) (sym (some_either (bytes_eq name l.0) l.1 (value_of_label labels name)))

pub names_in-seen : (es : List (Bor (List ℕ) × ℕ)) → map (λ e. e.0.now) es ≡ names (seen es)
names_in-seen [] = refl
names_in-seen (e ∷ es) = ap (λ ns. e.0.now ∷ ns) (names_in-seen es)

-- two texts are the same or not
bytes_eq_same : (a b : List ℕ) → bytes_eq a b ≡ true → a ≡ b
bytes_eq_same a b e = (bytes_eq-Decides a b).0 e

bytes_eq_comm : (a b : List ℕ) → bytes_eq a b ≡ bytes_eq b a
bytes_eq_comm a b =
    let back = bytes_eq-Decides b a in
    same_from_decides (bytes_eq a b) (bytes_eq b a) (bytes_eq-Decides a b) ((λ e. sym (back.0 e)), (λ e. back.1 (sym e)))

-- the values after one more label with a new name
value_push : (labels : Labels) (name : List ℕ) (at : ℕ) (q : List ℕ) → is_among (names labels) name ≡ false
    → value_of_label (labels ++ (name, at) ∷ []) q ≡ cond (bytes_eq name q) (Some at) (value_of_label labels q)
value_push [] name at q new = rw (bytes_eq_comm name q) refl
value_push (l ∷ labels) name at q new =
    let apart = or_parts (bytes_eq name l.0) (is_among (names labels) name) new in
    let rest = value_push labels name at q apart.1 in
    elim (cases_Bool (bytes_eq q l.0)) [
      | inl e ↦ let other : bytes_eq name q ≡ false = rw (bytes_eq_same q l.0 e) apart.0 in rw (e, other)
      | inr e ↦ rw (e, rest)
    ]

pub value_insert : (m n : BTreeMap (Bor (List ℕ)) ℕ) (name : List ℕ) (at : ℕ) (q : List ℕ)
    → UpdatesBy (λ x y. slice_cmp nat_cmp x.now y.now) (λ k. slice_cmp nat_cmp name k.now) m n (Some at)
    → is_among (names_in m) name ≡ false
    → value_of_label (labels_in n) q ≡ value_of_label (labels_in m ++ (name, at) ∷ []) q
value_insert m n name at q updates new =
    sym (looked_up-seen q n.entries) ∙ btree_map_updates_str name m n (Some at) updates q
    ∙ ap (λ o. cond (bytes_eq name q) (Some at) o) (looked_up-seen q m.entries)
    ∙ sym (value_push (labels_in m) name at q (sym (ap (λ ns. is_among ns name) (names_in-seen m.entries)) ∙ new))

-- a label without a value in a map, or with one
pub is_new : (m : BTreeMap (Bor (List ℕ)) ℕ) (label : Option (Bor (List ℕ))) (name : Bor (List ℕ)) (old : Option ℕ) (new : Bool)
    → label ≡ Some name → old ≡ looked_up name.now m.entries → is_some old ≡ not new
    → new ≡ not (list_any (is_among (names_in m)) (option_to_list (option_map seen_name label)))
is_new m label name old new e found is =
    rw e (by_test new (is_among (names_in m) name.now) (sym (is_some-looked_up name.now m.entries) ∙ ap is_some (sym found) ∙ is))
  where
    by_test : (new b : Bool) → b ≡ not new → new ≡ not (b || false)
    by_test true b e = rw e refl
    by_test false b e = rw e refl

-- the label of a line, which is new
pub value_define : (m n : BTreeMap (Bor (List ℕ)) ℕ) (label : Option (Bor (List ℕ))) (name : Bor (List ℕ)) (at : ℕ) (old : Option ℕ) (new : Bool) (q : List ℕ)
    → label ≡ Some name
    → UpdatesBy (λ x y. slice_cmp nat_cmp x.now y.now) (λ k. slice_cmp nat_cmp name.now k.now) m n (Some at)
    → old ≡ looked_up name.now m.entries → is_some old ≡ not new → new ≡ true
    → value_of_label (labels_in n) q ≡ value_of_label (labels_in m ++ label_with at (option_map seen_name label)) q
value_define m n label name at old new q e updates found is fresh =
    rw e (value_insert m n name.now at q updates (sym (is_some-looked_up name.now m.entries) ∙ ap is_some (sym found) ∙ is ∙ ap not fresh))

-- ---- a line without a fault in the first pass

pub record Clear (part : Part) (names : List (List ℕ)) (at : ℕ) (line : Line) : Type 0 where
  pub formed : formless part line.statement ≡ false
  pub new : list_any (is_among names) (option_to_list line.label) ≡ false
  pub within : is_past at line.statement ≡ false
  pub short : is_long part at line.statement ≡ false

pub clear_line : (part : Part) (number : ℕ) (names : List (List ℕ)) (at : ℕ) (line : Line)
    → first_fault part number names at (Some line) ≡ None → Clear part names at line
clear_line part number names at line e = record { formed = grind arith; new = grind arith; within = grind arith; short = grind arith }

-- out of memory, or a fault
pub at_fault : {P Q R : Type 0} → (Q → R) → P ⊎ Q → P ⊎ R
at_fault f (inl p) = inl p
at_fault f (inr q) = inr (f q)

-- ---- labels by name alone

abbrev either : Option ℕ → Option ℕ → Option ℕ
either None o = o
either (Some n) o = Some n

value_of_label-append : (labels more : Labels) (q : List ℕ) → value_of_label (labels ++ more) q ≡ either (value_of_label labels q) (value_of_label more q)
value_of_label-append [] more q = refl
value_of_label-append (l ∷ labels) more q = rw (value_of_label-append labels more q) (elim (cases_Bool (bytes_eq q l.0)) [ inl e ↦ rw e | inr e ↦ rw e ])

value-append : (labels others more : Labels) (q : List ℕ) → value_of_label labels q ≡ value_of_label others q
    → value_of_label (labels ++ more) q ≡ value_of_label (others ++ more) q
value-append labels others more q e =
    value_of_label-append labels more q ∙ ap (λ o. either o (value_of_label more q)) e ∙ sym (value_of_label-append others more q)

-- ---- the first pass, line by line

-- The labels defined, and those of the lines left, are those of the whole first pass.
pub record Passed (part : Part) (all : List Placed) (number : ℕ) (map : BTreeMap (Bor (List ℕ)) ℕ) (at : ℕ) (left : List (Option Line)) : Type 0 where
  pub before : Labels
  pub same : (q : List ℕ) → value_of_label (labels_in map) q ≡ value_of_label before q
  pub whole : first_pass part 1 [] all ≡ first_pass part (number + 1) (names before) (placed_from part at left)
  pub labels : labels_of all ≡ before ++ labels_of (placed_from part at left)

-- the labels in the map have the names of the labels before
among_before : (map : BTreeMap (Bor (List ℕ)) ℕ) (before : Labels) → ((q : List ℕ) → value_of_label (labels_in map) q ≡ value_of_label before q)
    → (name : List ℕ) → is_among (names_in map) name ≡ is_among (names before) name
among_before map before same name =
    ap (λ ns. is_among ns name) (names_in-seen map.entries) ∙ is_among-names name (labels_in map) ∙ ap is_some (same name) ∙ sym (is_among-names name before)

first_fault-same : (part : Part) (number : ℕ) (some others : List (List ℕ)) (at : ℕ) (line : Option Line)
    → ((name : List ℕ) → is_among some name ≡ is_among others name)
    → first_fault part number some at line ≡ first_fault part number others at line
first_fault-same part number some others at None h = refl
first_fault-same part number some others at (Some line) h = let same : is_among some ≡ is_among others = fun_ext h in rw same

names-line : (at : ℕ) (line : Option Line) → names (line_labels at line) ≡ line_names line
names-line at None = refl
names-line at (Some line) = by_label line.label
  where
    by_label : (label : Option (List ℕ)) → names (label_with at label) ≡ option_to_list label
    by_label None = refl
    by_label (Some name) = refl

module _ {part : Part} {all : List Placed} {number : ℕ} {map : BTreeMap (Bor (List ℕ)) ℕ} {at : ℕ} {line : Option Line} {lines : List (Option Line)}
    (passed : Passed part all number map at (line ∷ lines)) where
  fault-same : first_fault part (number + 1) (names_in map) at line ≡ first_fault part (number + 1) (names passed.before) at line
  fault-same = first_fault-same part (number + 1) (names_in map) (names passed.before) at line (among_before map passed.before passed.same)

  pub passed_more : {new : BTreeMap (Bor (List ℕ)) ℕ} {next : ℕ} → IsPlaced part (number + 1) at line map new next → Passed part all (number + 1) new next lines
  passed_more {new} {next} placed =
      let clear = sym fault-same ∙ placed.clear in
      let more : names (passed.before ++ line_labels at line) ≡ names passed.before ++ line_names line =
      map-append (λ l. l.0) passed.before (line_labels at line) ∙ ap (λ ns. names passed.before ++ ns) (names-line at line) in
      record {
        before = passed.before ++ line_labels at line;
        same = λ q. placed.labelled q ∙ value-append (labels_in map) passed.before (line_labels at line) q (passed.same q);
        whole = passed.whole ∙ rw (clear, more, placed.behind);
        labels = passed.labels ∙ rw placed.behind (sym (append_assoc passed.before (line_labels at line) (labels_of (placed_from part (after_line part at line) lines))));
      }

  pub passed_fault : {e : AsmError} → first_fault part (number + 1) (names_in map) at line ≡ Some e → first_pass part 1 [] all ≡ Some e
  passed_fault fault =
      passed.whole ∙ rw (sym fault-same ∙ fault)
