-- A teletext row: the state after each code, and the pixels of each cell on a line. (SAA5050 data
-- sheet.)
use Rattle.std.specs.Prelude.{ℕ, ◌+◌, ◌*◌, ◌/◌, ◌%◌, ◌==◌, ◌&&◌, ◌||◌, not, nat_le, nat_lt, Bool, false, List, Option, None, Some, fold, map, if◌then◌else◌}
use Rattle.std.specs.List.{range_with_len}
use Rattle.saa5050.specs.declared.style.Style.{Style}
use Rattle.saa5050.specs.declared.style.Shape.{Shape}
use Rattle.saa5050.specs.declared.style.Shape.TheVariants.{Blank, Letter, Graphic}
use Rattle.saa5050.specs.declared.style.Sixel.{Sixel}
use Rattle.saa5050.specs.Controls.{plain, controls, effect_of, holds_at_once}
use Rattle.saa5050.specs.Shapes.{Font, shape_dot}

-- The state after some codes: the style of the cells to come, and `had_double` if one of the codes
-- was 0D.
pub record Row : Type 0 where
  pub style : Style
  pub had_double : Bool

abbrev pub row_start : Row
row_start = record { style = plain; had_double = false }

-- the code is a sixel in graphics
abbrev pub is_sixel : ℕ → Bool
is_sixel code = nat_le 0x20 code && nat_le code 0x3F || nat_le 0x60 code && nat_le code 0x7F

abbrev pub sixel_of : ℕ → Style → Sixel
sixel_of code s = record { code = code; separated = s.separated }

-- a sixel becomes the held shape, with its separation
abbrev pub with_held_shape : ℕ → Style → Style
with_held_shape code s = if s.graphics && is_sixel code then record s { held = Some (sixel_of code s) } else s

abbrev pub style_after : ℕ → Style → Style
style_after code s = if nat_lt code 0x20 then effect_of controls code s else with_held_shape code s

-- the style of the code's own cell, after that of the codes before it
abbrev pub style_at : ℕ → Style → Style
style_at code s = if holds_at_once controls code then effect_of controls code s else s

abbrev pub row_after : ℕ → Row → Row
row_after code row = record { style = style_after code row.style; had_double = row.had_double || code == 0x0D }

-- the row after the codes of a list
abbrev pub row_of : List ℕ → Row
row_of codes = fold (λ row code. row_after code row) row_start codes

abbrev pub held_shape : Option Sixel → Shape
held_shape None = Blank
held_shape (Some sixel) = Graphic sixel

-- The shape in the cell of a code, with the cell's style. A control code shows the held shape if
-- graphics are held.
abbrev pub shape_of : ℕ → Style → Shape
shape_of code s =
    if nat_lt code 0x20 then (if s.holding && s.graphics then held_shape s.held else Blank)
    else if s.graphics && is_sixel code then Graphic (sixel_of code s)
    else Letter code

-- The line of the shape. Double height shows the upper half, and in a bottom row the lower half.
abbrev pub shape_line : Style → ℕ → Bool → ℕ
shape_line s ra bottom = if s.double then ra / 2 + (if bottom then 10 else 0) else ra

-- A cell is blank below the last line, and for normal height in a bottom row. It is blank for a
-- quarter of the time if it flashes, and always if it is concealed.
abbrev pub is_blank : Style → ℕ → Bool → ℕ → Bool
is_blank s ra bottom fields = nat_le 20 ra || (bottom && not s.double) || (s.flashing && nat_lt (fields % 64) 16) || s.concealed

-- half dot x of the cell of a code on a line
abbrev pub cell_dot : Font → ℕ → ℕ → Bool → ℕ → Style → ℕ → Bool
cell_dot font code ra bottom fields s x = not (is_blank s ra bottom fields) && shape_dot font (shape_of code s) (shape_line s ra bottom) x

-- The sixteen pixels of a cell, the leftmost first. Pixel j is the foreground if half dot 3j/4 is
-- on, otherwise the background.
abbrev pub pixel : (ℕ → Bool) → ℕ → ℕ → ℕ → ℕ
pixel on foreground background j = if on (3 * j / 4) then foreground else background

abbrev pub line_pixels : (ℕ → Bool) → ℕ → ℕ → List ℕ
line_pixels on foreground background = map (pixel on foreground background) (range_with_len 0 16)

abbrev pub styled_cell : Font → ℕ → ℕ → Bool → ℕ → Style → List ℕ
styled_cell font code ra bottom fields s = line_pixels (cell_dot font code ra bottom fields s) s.foreground s.background

-- the pixels of the cell of a code after a row's earlier codes
abbrev pub cell : Font → ℕ → ℕ → Bool → ℕ → Row → List ℕ
cell font code ra bottom fields row = styled_cell font code ra bottom fields (style_at code row.style)
