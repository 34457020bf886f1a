-- A row by the list of its codes.
use Rattle.std.proofs.Common.{ℕ, ◌≡◌, ◌==◌, ◌<◌, ◌≤◌, refl, ◌∙◌, Bool, true, false, ◌&&◌, ◌||◌, List, [], ◌∷◌, ◌++◌, inl, inr, arith}
use Rattle.std.specs.Prelude.{fold, nat_lt}
use Rattle.std.proofs.lemmas.Bool.{agree_below_at, and_parts, cases_Bool, le-ltb}
use Rattle.std.proofs.lemmas.Bool.Decides.{nat_tests}
use Rattle.saa5050.specs.declared.style.Style.{Style}
use Rattle.saa5050.specs.Controls.{controls, holds_at_once}
use Rattle.saa5050.specs.CodeSteps.{style_past}
use Rattle.std.specs.List.{list_any}
use Rattle.saa5050.specs.Row.{Row, row_after, row_start, style_at, style_after}
use Rattle.saa5050.specs.Laws.{OneCodeMore, DoubleIsAmongCodes}

more-from : (row : Row) (codes : List ℕ) (code : ℕ) → fold (λ row code. row_after code row) row (codes ++ code ∷ []) ≡ row_after code (fold (λ row code. row_after code row) row codes)
more-from row [] code = refl
more-from row (c ∷ codes) code = more-from (row_after c row) codes code

pub one_code_more : OneCodeMore
one_code_more codes code = more-from row_start codes code

or-assoc : (a b c : Bool) → ((a || b) || c) ≡ (a || (b || c))
or-assoc true b c = refl
or-assoc false b c = refl

double-from : (row : Row) (codes : List ℕ) → (fold (λ row code. row_after code row) row codes).had_double ≡ (row.had_double || list_any (λ code. code == 0x0D) codes)
double-from row [] = elim (cases_Bool row.had_double) [ inl e ↦ rw e | inr e ↦ rw e ]
double-from row (c ∷ codes) = double-from (row_after c row) codes ∙ or-assoc row.had_double (c == 0x0D) (list_any (λ code. code == 0x0D) codes)

pub double_is_among_codes : DoubleIsAmongCodes
double_is_among_codes codes = double-from row_start codes

-- a code that holds for its own cell is a control code
at_once : (code : ℕ) → code < 128 → holds_at_once controls code ≡ true → nat_lt code 0x20 ≡ true
at_once code low e =
    let both = agree_below_at (λ k. holds_at_once controls k && nat_lt k 0x20) (holds_at_once controls) 128 code refl low in
    (and_parts (holds_at_once controls code) (nat_lt code 0x20) (both ∙ e)).1

-- the effect in the code's own cell and that after it are the whole effect
pub in_two_parts : (code : ℕ) (s : Style) → code < 128 → style_past code (style_at code s) ≡ style_after code s
in_two_parts code s low = elim (cases_Bool (holds_at_once controls code)) [ inl h ↦ rw (h, at_once code low h) | inr h ↦ rw h ]

-- a code that is no control code does not change its own cell's style, and is no double-height code
pub kept_in_its_cell : (code : ℕ) (s : Style) → 0x20 ≤ code → code < 128 → s ≡ style_at code s
kept_in_its_cell code s above low = elim (cases_Bool (holds_at_once controls code)) [
  | inl h ↦ let control = at_once code low h in let none = le-ltb code 0x20 above in cc
  | inr h ↦ rw h
]

pub none_for_double : (code : ℕ) (had : Bool) → 0x20 ≤ code → had ≡ (had || code == 0x0D)
none_for_double code had above = grind (arith, nat_tests)
