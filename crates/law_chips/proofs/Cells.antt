-- The style of a row by its codes.
use Rattle.std.proofs.Common.{◌≡◌, ◌∙◌, sym, ap, refl, ℕ, ◌+◌, ◌%◌, ◌<◌, ◌≤◌, ◌==◌, ◌&&◌, ◌||◌, not, Bool, true, false, List, [], ◌∷◌, reverse}
use Rattle.std.proofs.Common.{arith}
use Rattle.std.specs.Prelude.{Option, None, Some, nat_lt, nat_le, if◌then◌else◌}
use Rattle.std.proofs.lemmas.Bool.{le-ltb, lt-leb, ltb-true, and_right, and_parts}
use Rattle.std.proofs.lemmas.List.{reverse-reverse}
use Rattle.std.proofs.lemmas.Grind.{reverse_onto}
use Rattle.std.proofs.lemmas.Bool.Decides.{nat_tests}
use Rattle.saa5050.specs.declared.style.Style.{Style}
use Rattle.saa5050.specs.declared.style.Sixel.{Sixel}
use Rattle.saa5050.specs.Shapes.{Font}
use Rattle.saa5050.specs.Controls.{Control, controls, effect_of, holds_at_once}
use Rattle.saa5050.specs.Row.{is_sixel, sixel_of, style_after, style_at, row_of, styled_cell}
use Rattle.saa5050.specs.Laws.{OneCodeMore}
use Rattle.law_chips.specs.TeletextCells.{is_letters, is_colour, colour, in_graphics, is_flashing, is_double, is_separated, is_holding, is_concealed}
use Rattle.law_chips.specs.TeletextCells.{background}
use Rattle.law_chips.specs.TeletextCells.{changes_height, held, pixels_of, CellsShowTheirCodes}
use Rattle.law_chips.proofs.Flags.{by_bit}

-- the effect of codes, the nearest first
told : List ℕ → Style
told before = record {
  foreground = colour before;
  background = background before;
  graphics = in_graphics before;
  flashing = is_flashing before;
  concealed = is_concealed before;
  double = is_double before;
  separated = is_separated before;
  holding = is_holding before;
  held = held before;
}

-- the effect of one more code on a style
more : ℕ → Style → Style
more code s = record {
  foreground = if is_colour code then code % 8 else s.foreground;
  background = if code == 0x1C then 0 else if code == 0x1D then s.foreground else s.background;
  graphics = if is_colour code then nat_le 0x10 code else s.graphics;
  flashing = if code == 0x08 then true else if code == 0x09 then false else s.flashing;
  concealed = if code == 0x18 then true else if is_colour code then false else s.concealed;
  double = if code == 0x0D then true else if code == 0x0C then false else s.double;
  separated = if code == 0x1A then true else if code == 0x19 then false else s.separated;
  holding = if code == 0x1E then true else if code == 0x1F then false else s.holding;
  held =
      if is_letters code then None
      else if changes_height code s.double then None
      else if is_sixel code && s.graphics then Some (record { code = code; separated = s.separated })
      else s.held;
}

-- and its effect on its own cell
own : ℕ → Style → Style
own code s = record {
  foreground = s.foreground;
  background = if code == 0x1C then 0 else if code == 0x1D then s.foreground else s.background;
  graphics = s.graphics;
  flashing = not (code == 0x09) && s.flashing;
  concealed = (code == 0x18) || s.concealed;
  double = not (code == 0x0C) && s.double;
  separated = if code == 0x1A then true else if code == 0x19 then false else s.separated;
  holding = (code == 0x1E) || s.holding;
  held = if (code == 0x0C) && s.double then None else s.held;
}

flip : (b : Bool) (x y : Option Sixel) → (if b then x else y) ≡ (if not b then y else x)
flip b x y = grind arith

-- ---- Control codes.

IsMore : Style → ℕ → Type 0
IsMore s code = style_after code s ≡ more code s

double_more : (s : Style) → IsMore s 0x0D
unfolding IsMore more
double_more s = grind arith

IsOwn : Style → ℕ → Type 0
IsOwn s code = style_at code s ≡ own code s

-- a law of each eight of them
by_rows : (P : ℕ → Type 0) → ((n : ℕ) → n < 8 → P n) → ((n : ℕ) → n < 8 → P (n + 8)) → ((n : ℕ) → n < 8 → P (n + 16)) → ((n : ℕ) → n < 8 → P (n + 24)) →
    (n : ℕ) → n < 32 → P n
by_rows P a b c d n h = grind arith

more_low : (s : Style) (code : ℕ) → code < 0x20 → IsMore s code
unfolding IsMore more
more_low s =
    by_rows (IsMore s) (by_bit (IsMore s) refl refl refl refl refl refl refl refl)
    (by_bit (λ n. IsMore s (n + 8)) refl refl refl refl refl (double_more s) refl refl)
    (by_bit (λ n. IsMore s (n + 16)) refl refl refl refl refl refl refl refl) (by_bit (λ n. IsMore s (n + 24)) refl refl refl refl refl refl refl refl)

own_low : (s : Style) (code : ℕ) → code < 0x20 → IsOwn s code
unfolding IsOwn own
own_low s =
    by_rows (IsOwn s) (by_bit (IsOwn s) refl refl refl refl refl refl refl refl) (by_bit (λ n. IsOwn s (n + 8)) refl refl refl refl refl refl refl refl)
    (by_bit (λ n. IsOwn s (n + 16)) refl refl refl refl refl refl refl refl) (by_bit (λ n. IsOwn s (n + 24)) refl refl refl refl refl refl refl refl)

-- ---- Other codes.

-- the control codes are below 20
all_low : List Control → Bool
all_low [] = true
all_low (c ∷ cs) = nat_lt c.last 0x20 && all_low cs

below : (last code : ℕ) → nat_lt last 0x20 ≡ true → 0x20 ≤ code → last < code
below last code low high = let is = ltb-true last 0x20 low in omega arith

no_control : (cs : List Control) (code : ℕ) → all_low cs ≡ true → 0x20 ≤ code → holds_at_once cs code ≡ false
unfolding all_low
no_control [] code low high = refl
no_control (c ∷ cs) code low high =
    let parts = and_parts _ _ low in
    let above : c.last < code = below c.last code parts.0 high in
    ap (λ b. if b then c.at_once else holds_at_once cs code) (and_right (nat_le c.first code) (nat_le code c.last) (lt-leb code c.last above))
    ∙ no_control cs code parts.1 high

is_not : (code n : ℕ) → nat_lt n 0x20 ≡ true → 0x20 ≤ code → (code == n) ≡ false
is_not code n low high = grind arith

-- a sixel is held
with_sixel : ℕ → Style → Style
with_sixel code s = record s { held = if is_sixel code && s.graphics then Some (record { code = code; separated = s.separated }) else s.held }

swap : (b g : Bool) (code : ℕ) (s : Style) →
    (if g && b then record s { held = Some (sixel_of code s) } else s)
    ≡ record s { held = if b && g then Some (record { code = code; separated = s.separated }) else s.held }
swap b g code s = grind arith

only_held : (code : ℕ) (s : Style) → 0x20 ≤ code → more code s ≡ with_sixel code s
unfolding more with_sixel
only_held code s high = grind (arith, nat_tests)

more_high : (s : Style) (code : ℕ) → 0x20 ≤ code → IsMore s code
unfolding IsMore with_sixel
more_high s code high = grind (arith, le-ltb, swap, only_held)

stays : (s : Style) (code : ℕ) → 0x20 ≤ code → own code s ≡ s
unfolding own
stays s code high = simp is_not

own_high : (s : Style) (code : ℕ) → 0x20 ≤ code → IsOwn s code
unfolding IsOwn all_low
own_high s code high =
    ap (λ b. if b then effect_of controls code s else s) (no_control controls code refl high) ∙ sym (stays s code high)

-- ---- All codes.

is_more : (s : Style) (code : ℕ) → style_after code s ≡ more code s
unfolding IsMore
is_more s code = grind (arith, more_low, more_high)

is_own : (s : Style) (code : ℕ) → style_at code s ≡ own code s
unfolding IsOwn
is_own s code = grind (arith, own_low, own_high)

-- a row, with the nearest code first
row_is : OneCodeMore → (before : List ℕ) → (row_of (reverse before)).style ≡ told before
unfolding told more
row_is one [] = refl
row_is one (code ∷ before) =
    ap (λ codes. (row_of codes).style) (reverse_onto before code []) ∙ ap (λ row. row.style) (one (reverse before) code)
    ∙ is_more (row_of (reverse before)).style code ∙ ap (more code) (row_is one before)

cell_is : (font : Font) (before : List ℕ) (code ra : ℕ) (lower : Bool) (fields : ℕ) →
    styled_cell font code ra lower fields (own code (told before)) ≡ pixels_of font code before ra lower fields
unfolding told own
cell_is font before code ra lower fields = refl

pub cells_show_their_codes : OneCodeMore → CellsShowTheirCodes
cells_show_their_codes one font codes code ra lower fields =
    let back = reverse codes in
    let style : (row_of codes).style ≡ told back = ap (λ xs. (row_of xs).style) (sym (reverse-reverse codes)) ∙ row_is one back in
    ap (styled_cell font code ra lower fields) (is_own (row_of codes).style code ∙ ap (own code) style) ∙ cell_is font back code ra lower fields
