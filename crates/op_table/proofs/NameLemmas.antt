-- A name belongs to one mnemonic, and a text leads to it.
use Rattle.std.proofs.Common.{◌≡◌, ◌↔◌, ℕ, ◌<◌, ◌≤◌, List, [], ◌∷◌, length, map, refl, ap, sym, ◌∙◌}
use Rattle.std.proofs.Common.{slice_index_or, Option, Some, None, Bool, true, false, eqb, eqb-true, nat_eq, find, inl, inr, arith, IsTrue}
use Rattle.std.specs.List.{list_all}
use Rattle.std.specs.Char.{to_ascii_uppercase, is_ascii_uppercase}
use Rattle.std.specs.Cmp.Lexicographic.{pointwise, same_text, other_text}
use Rattle.std.proofs.lemmas.Bool.{cases_Bool}
use Rattle.std.proofs.lemmas.List.{get_or-map, length-map}
use denote.Enum.Declared.{tag_of}
use denote.Enum.Bare.{same_true}
use Rattle.op_table.specs.contracts.names.Mnemonic.{the_type as mnemonics}
use Rattle.op_table.specs.declared.names.Mnemonic.{Mnemonic}
use Rattle.op_table.specs.declared.names.Mnemonic.TheVariants.{Adc}
use Rattle.op_table.specs.declared.names.TheConstants.{NAMES}
use Rattle.op_table.specs.Names.{name_of, all_mnemonics, same_mnemonic, mnemonic_of}
use Rattle.op_table.proofs.Numbers.{below_64, all_mnemonics-at, test_all}

abbrev has_name : List ℕ → Mnemonic → Bool
has_name upper name = pointwise nat_eq upper (name_of name)

abbrev is_at : Option Mnemonic → Mnemonic → Bool
is_at None name = false
is_at (Some n) name = same_mnemonic n name

is_at-true : (o : Option Mnemonic) (name : Mnemonic) → is_at o name ≡ true → o ≡ Some name
is_at-true None name e = cc
is_at-true (Some n) name e = ap Some (same_true mnemonics tt n name e)

finds_itself : (name : Mnemonic) → find (has_name (name_of name)) all_mnemonics ≡ Some name
finds_itself name =
    is_at-true _ name (test_all (λ n. is_at (find (has_name (name_of n)) all_mnemonics) n) refl name)

find-passes : (p : Mnemonic → Bool) (names : List Mnemonic) (n : Mnemonic) → find p names ≡ Some n → p n ≡ true
find-passes p [] n e = cc
find-passes p (m ∷ names) n e = elim (cases_Bool (p m)) [
  | inl q ↦ let first : Some m ≡ Some n = rw q at e in let same : n ≡ m = cc in rw same q
  | inr q ↦ find-passes p names n (rw q at e)
]

-- two mnemonics of one name are one
pub name_of-one : (a b : Mnemonic) → name_of a ≡ name_of b → a ≡ b
name_of-one a b e =
    let found : Some a ≡ Some b = sym (finds_itself a) ∙ (ap (λ (t : List ℕ). find (has_name t) all_mnemonics) e ∙ finds_itself b) in cc

pub mnemonic_of-iff : (text : List ℕ) (name : Mnemonic) → (mnemonic_of text ≡ Some name) ↔ (map to_ascii_uppercase text ≡ name_of name)
unfolding mnemonic_of
mnemonic_of-iff text name =
    let upper = map to_ascii_uppercase text in (
      (λ e. same_text upper (name_of name) (sym (find-passes (has_name upper) all_mnemonics name e))),
      (λ e. ap (λ (t : List ℕ). find (has_name t) all_mnemonics) e ∙ finds_itself name),
    )

one_answer : (a b : Option Mnemonic) → ((n : Mnemonic) → (a ≡ Some n) ↔ (b ≡ Some n)) → a ≡ b
one_answer None None h = refl
one_answer None (Some n) h = (h n).1 refl
one_answer (Some n) b h = sym ((h n).0 refl)

pub named-mnemonic_of : (text : List ℕ) (r : Option Mnemonic)
    → ((name : Mnemonic) → (r ≡ Some name) ↔ (map to_ascii_uppercase text ≡ name_of name)) → r ≡ mnemonic_of text
named-mnemonic_of text r h =
    one_answer r (mnemonic_of text) (λ n. (λ e. (mnemonic_of-iff text n).1 ((h n).0 e), λ e. (h n).1 ((mnemonic_of-iff text n).0 e)))

-- ---- properties of each name

pub mnemonic_of-name_of : (name : Mnemonic) → mnemonic_of (name_of name) ≡ Some name
unfolding mnemonic_of
mnemonic_of-name_of name = is_at-true _ name (test_all (λ n. is_at (mnemonic_of (name_of n)) n) refl name)

pub name_of-letters : (name : Mnemonic) → IsTrue (list_all is_ascii_uppercase (name_of name))
name_of-letters name = test_all (λ n. list_all is_ascii_uppercase (name_of n)) refl name

-- ---- the table of names in the code

entry : Mnemonic → Mnemonic × List ℕ
entry name = (name, name_of name)

NAMES_is : NAMES ≡ map entry all_mnemonics
unfolding entry
NAMES_is = refl

NAMES-at : (k : ℕ) (d : Mnemonic × List ℕ) → k < 64 → slice_index_or NAMES k d ≡ entry (slice_index_or all_mnemonics k Adc)
NAMES-at k d h =
    ap (λ (t : List (Mnemonic × List ℕ)). slice_index_or t k d) NAMES_is ∙ get_or-map entry all_mnemonics k Adc d h

pub is_named : (k : ℕ) (d : Mnemonic × List ℕ) (upper : List ℕ) → k < 64
    → true ≡ pointwise nat_eq (slice_index_or NAMES k d).1 upper
    → (name : Mnemonic) → (Some (slice_index_or NAMES k d).0 ≡ Some name) ↔ (upper ≡ name_of name)
unfolding entry
is_named k d upper h t name =
    let at_k = NAMES-at k d h in
    let first = ap (λ (e : Mnemonic × List ℕ). e.0) at_k in
    let second = ap (λ (e : Mnemonic × List ℕ). e.1) at_k in
    let text = same_text (slice_index_or NAMES k d).1 upper t in (
      (λ e. let one : slice_index_or all_mnemonics k Adc ≡ name = cc in sym text ∙ second ∙ ap name_of one),
      (λ e. ap Some (first ∙ name_of-one (slice_index_or all_mnemonics k Adc) name (sym second ∙ text ∙ e))),
    )

pub not_named : (k : ℕ) (d : Mnemonic × List ℕ) (upper : List ℕ) → k < 64
    → false ≡ pointwise nat_eq (slice_index_or NAMES k d).1 upper
    → name_of (slice_index_or all_mnemonics k Adc) ≡ upper → ⊥
unfolding entry
not_named k d upper h t e =
    other_text (slice_index_or NAMES k d).1 upper t (ap (λ (x : Mnemonic × List ℕ). x.1) (NAMES-at k d h) ∙ e)

-- a text that no mnemonic of the list has belongs to none
pub none_named : (n : ℕ) (upper : List ℕ) → 64 ≤ n
    → ((k : ℕ) → k < n → name_of (slice_index_or all_mnemonics k Adc) ≡ upper → ⊥)
    → (name : Mnemonic) → (None ≡ Some name) ↔ (upper ≡ name_of name)
none_named n upper h none name =
    let below : tag_of mnemonics name < n = (let small = below_64 name in omega arith) in (
      (λ e. cc),
      (λ e. absurd (none (tag_of mnemonics name) below (ap name_of (all_mnemonics-at name) ∙ sym e))),
    )

-- ---- a text of another length, and one of three letters

name_of-length : (name : Mnemonic) → length (name_of name) ≡ 3
name_of-length name = eqb-true _ _ (test_all (λ n. eqb (length (name_of n)) 3) refl name)

pub none_of_length : (text : List ℕ) → (length text ≡ 3 → ⊥)
    → (name : Mnemonic) → (None ≡ Some name) ↔ (map to_ascii_uppercase text ≡ name_of name)
none_of_length text other name = (
  (λ e. cc),
  (λ e. absurd (let long : length (map to_ascii_uppercase text) ≡ length text = simp length-map in other (sym long ∙ ap length e ∙ name_of-length name))),
)

pub three_letters : (text : List ℕ) (a b d : ℕ) → length text ≡ 3
    → a ≡ to_ascii_uppercase (slice_index_or text 0 0)
    → b ≡ to_ascii_uppercase (slice_index_or text 1 0)
    → d ≡ to_ascii_uppercase (slice_index_or text 2 0)
    → a ∷ b ∷ d ∷ [] ≡ map to_ascii_uppercase text
three_letters (x ∷ y ∷ z ∷ []) a b d e p q r = cc
three_letters _ a b d e p q r = absurd (omega arith)
