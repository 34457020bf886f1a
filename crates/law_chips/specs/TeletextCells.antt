-- The picture of each cell of a teletext row, by the codes before it in its row. (SAA5050 data
-- sheet, control characters, graphics hold, double height. This project's profile has the first
-- cell of each code's effect, and its effect on the held shape.)
use Rattle.std.specs.Prelude.{ℕ, ◌+◌, ◌*◌, ◌/◌, ◌%◌, ◌==◌, ◌&&◌, ◌||◌, ◌≡◌, not, nat_lt, nat_le, Bool, true, false, List, [], ◌∷◌, reverse, map, Option, None, Some, if◌then◌else◌}
use Rattle.std.specs.List.{range_with_len}
use Rattle.saa5050.specs.declared.style.Shape.{Shape}
use Rattle.saa5050.specs.declared.style.Shape.TheVariants.{Blank, Letter, Graphic}
use Rattle.saa5050.specs.declared.style.Sixel.{Sixel}
use Rattle.saa5050.specs.Shapes.{Font, shape_dot}
use Rattle.saa5050.specs.Row.{is_sixel, held_shape, row_of, cell}

-- ---- The effect of codes on later cells. The lists have the nearest code first.

-- 01 to 07 select letters in a colour, and 11 to 17 graphics.
abbrev pub is_letters : ℕ → Bool
is_letters code = nat_le 0x01 code && nat_le code 0x07

abbrev pub is_colour : ℕ → Bool
is_colour code = is_letters code || (nat_le 0x11 code && nat_le code 0x17)

-- the colour of the nearest colour code, or white if there is none
abbrev pub colour : List ℕ → ℕ
colour [] = 7
colour (code ∷ before) = if is_colour code then code % 8 else colour before

-- the nearest colour code selects graphics
abbrev pub in_graphics : List ℕ → Bool
in_graphics [] = false
in_graphics (code ∷ before) = if is_colour code then nat_le 0x10 code else in_graphics before

-- The nearer one of two codes, `on` and `off`, is `on`. If there is none, the result is off.
abbrev pub is_on : ℕ → ℕ → List ℕ → Bool
is_on on off [] = false
is_on on off (code ∷ before) = if code == on then true else if code == off then false else is_on on off before

abbrev pub is_flashing : List ℕ → Bool
is_flashing before = is_on 0x08 0x09 before

abbrev pub is_double : List ℕ → Bool
is_double before = is_on 0x0D 0x0C before

abbrev pub is_separated : List ℕ → Bool
is_separated before = is_on 0x1A 0x19 before

abbrev pub is_holding : List ℕ → Bool
is_holding before = is_on 0x1E 0x1F before

-- there was a conceal code, and no colour code after it
abbrev pub is_concealed : List ℕ → Bool
is_concealed [] = false
is_concealed (code ∷ before) = if code == 0x18 then true else if is_colour code then false else is_concealed before

-- The background is black, or the colour at the nearest code that makes it the background.
abbrev pub background : List ℕ → ℕ
background [] = 0
background (code ∷ before) = if code == 0x1C then 0 else if code == 0x1D then colour before else background before

-- normal height after double height, or double height after normal height
abbrev pub changes_height : ℕ → Bool → Bool
changes_height code double = if code == 0x0C then double else if code == 0x0D then not double else false

-- The shape to hold: the nearest graphics sixel, with its separation there. It is blank if there
-- was none, and after a letters colour or a change of height.
abbrev pub held : List ℕ → Option Sixel
held [] = None
held (code ∷ before) =
    if is_letters code then None
    else if changes_height code (is_double before) then None
    else if is_sixel code && in_graphics before then Some (record { code = code; separated = is_separated before })
    else held before

-- ---- The cell of a code, after the codes before it. Steady, normal height, conceal, the kind of
-- graphics, the background and hold take effect in the code's own cell, the others in the next.

abbrev pub flashes : ℕ → List ℕ → Bool
flashes code before = not (code == 0x09) && is_flashing before

abbrev pub has_double_height : ℕ → List ℕ → Bool
has_double_height code before = not (code == 0x0C) && is_double before

abbrev pub conceals : ℕ → List ℕ → Bool
conceals code before = (code == 0x18) || is_concealed before

-- If graphics are held, a control code shows the held shape, otherwise a space.
abbrev pub held_at : ℕ → List ℕ → Option Sixel
held_at code before = if (code == 0x0C) && is_double before then None else held before

abbrev pub control_shape : ℕ → List ℕ → Shape
control_shape code before = if ((code == 0x1E) || is_holding before) && in_graphics before then held_shape (held_at code before) else Blank

-- Any other code is a sixel in graphics, or a letter.
abbrev pub shape_at : ℕ → List ℕ → Shape
shape_at code before =
    if nat_lt code 0x20 then control_shape code before
    else if in_graphics before && is_sixel code then Graphic (record { code = code; separated = is_separated (code ∷ before) })
    else Letter code

-- These are hidden: lines below the last one, normal height in the lower row of a double height,
-- flashing cells a quarter of the time, and concealed cells.
abbrev pub is_hidden : ℕ → List ℕ → ℕ → Bool → ℕ → Bool
is_hidden code before ra lower fields =
    nat_le 20 ra || (lower && not (has_double_height code before)) || (flashes code before && nat_lt (fields % 64) 16) || conceals code before

-- The line of the shape. A double height has its upper half in one row, and its lower half in the
-- next.
abbrev pub line_at : ℕ → List ℕ → ℕ → Bool → ℕ
line_at code before ra lower = if has_double_height code before then ra / 2 + (if lower then 10 else 0) else ra

-- half dot `x` is in the foreground
abbrev pub is_lit : Font → ℕ → List ℕ → ℕ → Bool → ℕ → ℕ → Bool
is_lit font code before ra lower fields x =
    not (is_hidden code before ra lower fields) && shape_dot font (shape_at code before) (line_at code before ra lower) x

-- Pixel `j` of sixteen shows half dot 3j/4 of the twelve.
abbrev pub pixels_of : Font → ℕ → List ℕ → ℕ → Bool → ℕ → List ℕ
pixels_of font code before ra lower fields =
    map (λ j. if is_lit font code before ra lower fields (3 * j / 4) then colour before else background (code ∷ before)) (range_with_len 0 16)

-- On each line, a cell after any codes of its row shows these pixels.
abbrev pub CellsShowTheirCodes : Type 0
CellsShowTheirCodes =
    (font : Font) (codes : List ℕ) (code ra : ℕ) (lower : Bool) (fields : ℕ) →
    cell font code ra lower fields (row_of codes) ≡ pixels_of font code (reverse codes) ra lower fields
