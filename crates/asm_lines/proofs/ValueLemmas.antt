-- A list of values by its first one, and a line by its label.
use Rattle.std.proofs.Common.{◌≡◌, ◌∙◌, sym, refl, ap, ℕ, true, List, [], ◌∷◌, map, Option, Some, None, option_map, if◌then◌else◌, is_some, arith}
use Rattle.asm_lines.specs.Tokens.{Token, word, hex, colon, comma, low, high, plus}
use Rattle.asm_lines.specs.Syntax as syntax
use Rattle.asm_lines.specs.Code.{label_in_front, values_until, values_of_list}

-- ---- lines

-- a line by the label at its front
abbrev pub line_behind : List Token → Option (List ℕ × List Token) → Option syntax.Line
line_behind ts None = option_map (λ s. record { label = None; statement = s }) (syntax.rest_of ts)
line_behind ts (Some r) =
    if syntax.is_label r.0 then option_map (λ s. record { label = Some r.0; statement = s }) (syntax.rest_of r.1) else None

pub line_of_front : (ts : List Token) → syntax.line_of ts ≡ line_behind ts (label_in_front ts)
line_of_front [] = refl
line_of_front (word run ∷ colon ∷ ts) = refl
line_of_front ts = refl

-- ---- the first group of tokens, and the groups after it

front : List Token → List Token
front [] = []
front (comma ∷ ts) = []
front (t ∷ ts) = t ∷ front ts

behind : List Token → List (List Token)
behind [] = []
behind (comma ∷ ts) = syntax.groups_of ts
behind (t ∷ ts) = behind ts

groups_by_front : (ts : List Token) → syntax.groups_of ts ≡ front ts ∷ behind ts
unfolding front behind
groups_by_front [] = refl
groups_by_front (comma ∷ ts) = refl
groups_by_front (t ∷ ts) = rw (groups_by_front ts)

-- A value read at the front of tokens ends before the first comma.
abbrev fronted : {X : Type 0} → Option (X × List Token) → Option (X × List Token)
fronted None = None
fronted (Some r) = Some (r.0, front r.1)

abbrev SameBehind : {X : Type 0} → Option (X × List Token) → List (List Token) → Type 0
SameBehind None groups = Unit {0}
SameBehind (Some r) groups = behind r.1 ≡ groups

-- The reading of those tokens is the same, with the same groups after it.
abbrev InFront : {X : Type 0} → Option (X × List Token) → Option (X × List Token) → List (List Token) → Type 0
InFront read in_front groups = (fronted read ≡ in_front) × SameBehind read groups

beyond_front : (name : List ℕ) (ts : List Token) (o : Option syntax.Number)
    → InFront (option_map (λ n. (syntax.beyond name n, ts)) o) (option_map (λ n. (syntax.beyond name n, front ts)) o) (behind ts)
beyond_front name ts o = grind arith

label_front : (name : List ℕ) (ts : List Token) → InFront (syntax.label_at name ts) (syntax.label_at name (front ts)) (behind ts)
unfolding front behind
label_front name [] = (refl, refl)
label_front name (plus ∷ []) = (refl, tt)
label_front name (plus ∷ word run ∷ ts) = beyond_front name ts (syntax.decimal_number run)
label_front name (plus ∷ hex run ∷ ts) = beyond_front name ts (syntax.hex_number run)
label_front name (plus ∷ t ∷ ts) = (refl, tt)
label_front name (t ∷ ts) = (refl, refl)

word_front : (run : List ℕ) (ts : List Token) (o : Option syntax.Number) → InFront (syntax.word_at run ts o) (syntax.word_at run (front ts) o) (behind ts)
word_front run ts o = grind (arith, label_front run ts)

hex_front : (ts : List Token) (o : Option syntax.Number)
    → InFront (option_map (λ n. (syntax.number n, ts)) o) (option_map (λ n. (syntax.number n, front ts)) o) (behind ts)
hex_front ts o = grind arith

base_front : (ts : List Token) → InFront (syntax.base_at ts) (syntax.base_at (front ts)) (behind ts)
unfolding front behind
base_front [] = (refl, tt)
base_front (word run ∷ ts) = word_front run ts (syntax.decimal_number run)
base_front (hex run ∷ ts) = hex_front ts (syntax.hex_number run)
base_front (t ∷ ts) = (refl, tt)

portion_front : (portion : syntax.Portion) (read in_front : Option (syntax.Base × List Token)) (groups : List (List Token))
    → InFront read in_front groups → InFront (syntax.portion_of portion read) (syntax.portion_of portion in_front) groups
portion_front portion read in_front groups h = grind arith

value_front : (ts : List Token) → InFront (syntax.value_at ts) (syntax.value_at (front ts)) (behind ts)
unfolding front behind
value_front [] = (refl, tt)
value_front (low ∷ ts) = portion_front syntax.low_byte (syntax.base_at ts) (syntax.base_at (front ts)) (behind ts) (base_front ts)
value_front (high ∷ ts) = portion_front syntax.high_byte (syntax.base_at ts) (syntax.base_at (front ts)) (behind ts) (base_front ts)
value_front (comma ∷ ts) = (refl, tt)
value_front (t ∷ ts) = portion_front syntax.whole (syntax.base_at (t ∷ ts)) (syntax.base_at (front (t ∷ ts))) (behind (t ∷ ts)) (base_front (t ∷ ts))

-- ---- a list by its first value

-- a value and the tokens after its comma, if it has one, or none
abbrev pub first_of : Option (syntax.Value × List Token) → Option (syntax.Value × Option (List Token))
first_of None = None
first_of (Some (v, [])) = Some (v, None)
first_of (Some (v, comma ∷ ts)) = Some (v, Some ts)
first_of (Some (v, t ∷ ts)) = None

-- the value read from each group
abbrev pub read : List Token → List (Option syntax.Value)
read ts = map (λ group. syntax.only_value (syntax.value_at group)) (syntax.groups_of ts)

abbrev read_behind : List Token → List (Option syntax.Value)
read_behind ts = map (λ group. syntax.only_value (syntax.value_at group)) (behind ts)

abbrev by_first : List Token → Option (syntax.Value × Option (List Token)) → List (Option syntax.Value)
by_first ts None = None ∷ read_behind ts
by_first ts (Some (v, None)) = Some v ∷ []
by_first ts (Some (v, Some rest)) = Some v ∷ read rest

read_first : (ts : List Token) (o : Option (syntax.Value × List Token)) → SameBehind o (behind ts)
    → syntax.only_value (fronted o) ∷ read_behind ts ≡ by_first ts (first_of o)
unfolding front behind
read_first ts None h = refl
read_first ts (Some (v, [])) h = rw (← h)
read_first ts (Some (v, comma ∷ rest)) h = rw (← h)
read_first ts (Some (v, t ∷ rest)) h = refl

read_by_first : (ts : List Token) → read ts ≡ by_first ts (first_of (syntax.value_at ts))
read_by_first ts =
    let value = value_front ts in
    rw (groups_by_front ts, sym value.0) (read_first ts (syntax.value_at ts) value.1)

abbrev pub listed_by : Option (syntax.Value × Option (List Token)) → List syntax.Value
listed_by None = []
listed_by (Some (v, None)) = v ∷ []
listed_by (Some (v, Some rest)) = v ∷ values_of_list rest

pub listed_first : (ts : List Token) → values_of_list ts ≡ listed_by (first_of (syntax.value_at ts))
unfolding values_of_list
listed_first ts = ap values_until (read_by_first ts) ∙ by_cases (first_of (syntax.value_at ts))
  where
    by_cases : (o : Option (syntax.Value × Option (List Token))) → values_until (by_first ts o) ≡ listed_by o
    by_cases o = grind arith

abbrev pub values_by : Option (syntax.Value × Option (List Token)) → Option (List syntax.Value)
values_by None = None
values_by (Some (v, None)) = Some (v ∷ [])
values_by (Some (v, Some rest)) = option_map (λ values. v ∷ values) (syntax.values_of rest)

pub values_first : (ts : List Token) → syntax.values_of ts ≡ values_by (first_of (syntax.value_at ts))
values_first ts = ap syntax.all_of (read_by_first ts) ∙ by_cases (first_of (syntax.value_at ts))
  where
    by_cases : (o : Option (syntax.Value × Option (List Token))) → syntax.all_of (by_first ts o) ≡ values_by o
    by_cases o = grind arith

-- ---- a whole list

until_all : (os : List (Option syntax.Value)) → is_some (syntax.all_of os) ≡ true → syntax.all_of os ≡ Some (values_until os)
until_all [] e = refl
until_all (None ∷ os) e = absurd cc
until_all (Some v ∷ os) e = grind (arith, until_all os)

pub listed_all : (ts : List Token) → is_some (syntax.values_of ts) ≡ true → syntax.values_of ts ≡ Some (values_of_list ts)
unfolding values_of_list
listed_all ts e = until_all (read ts) e
