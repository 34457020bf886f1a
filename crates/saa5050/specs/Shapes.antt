-- The shape in a cell, by half dots: a cell is twelve half dots wide and twenty lines high.
-- (SAA5050 data sheet, character rounding, graphics characters; which half dots are on is this
-- project's profile.)
use Rattle.std.specs.Prelude.{ℕ, ◌+◌, ◌-◌, ◌/◌, ◌%◌, ◌==◌, ◌&&◌, ◌||◌, not, nat_lt, Bool, false, List, [], ◌∷◌, Option, if◌then◌else◌}
use Rattle.std.specs.List.{list_any}
use Rattle.beeb_bits.specs.Bits.{bit}
use Rattle.rom_set.specs.Roms.{font_shape}
use Rattle.saa5050.specs.declared.style.Shape.{Shape}
use Rattle.saa5050.specs.declared.style.Shape.TheVariants.{Blank, Letter, Graphic}

abbrev pub Font : Type 0
Font = Option (List ℕ)

-- A row of a letter's dots. Rows outside 0 to 9 are blank.
abbrev pub letter_row : Font → ℕ → ℕ → ℕ
letter_row font code r = if nat_lt r 10 then font_shape font code r else 0

abbrev pub row_above : Font → ℕ → ℕ → ℕ
row_above font code r = if r == 0 then 0 else letter_row font code (r - 1)

-- A row of dots fills two lines. The row above rounds the upper line, and the row below the lower
-- line.
abbrev pub near_row : Font → ℕ → ℕ → ℕ
near_row font code s = if s % 2 == 0 then row_above font code (s / 2) else letter_row font code (s / 2 + 1)

-- dot d of a row; dot 0 is the leftmost of six, and dots outside the six are off
abbrev pub dot : ℕ → ℕ → Bool
dot row d = nat_lt d 6 && bit row (5 - d)

-- the dot beside half dot x: to the left of its own dot for a left half, to the right for a right
-- half
abbrev pub side_dot : ℕ → ℕ → Bool
side_dot row x = if x % 2 == 0 then (if x == 0 then false else dot row (x / 2 - 1)) else dot row (x / 2 + 1)

-- Half dot x is on if its dot is on. It is also on if a diagonal passes: the dot beside it is on,
-- and in the near row its own dot is on and the dot beside it is off.
abbrev pub rounded_dot : ℕ → ℕ → ℕ → Bool
rounded_dot row near x = dot row (x / 2) || (side_dot row x && dot near (x / 2) && not (side_dot near x))

abbrev pub letter_dot : Font → ℕ → ℕ → ℕ → Bool
letter_dot font code s x = rounded_dot (letter_row font code (s / 2)) (near_row font code s) x

abbrev pub is_among : ℕ → List ℕ → Bool
is_among n ns = list_any (λ m. n == m) ns

-- A sixel has two columns of three parts. The bit of the code for the part at half dot x of line s:
abbrev pub part_bit : ℕ → ℕ → ℕ
part_bit s x =
    if nat_lt s 6 then (if nat_lt x 6 then 0 else 1)
    else if nat_lt s 14 then (if nat_lt x 6 then 2 else 3)
    else (if nat_lt x 6 then 4 else 6)

-- the half dots, and the lines, that are off between the parts of a separated sixel
abbrev pub gap_dots : List ℕ
gap_dots = 0 ∷ 1 ∷ 6 ∷ 7 ∷ []

abbrev pub gap_lines : List ℕ
gap_lines = 4 ∷ 5 ∷ 12 ∷ 13 ∷ 18 ∷ 19 ∷ []

abbrev pub is_gap : ℕ → ℕ → Bool
is_gap s x = is_among x gap_dots || is_among s gap_lines

abbrev pub sixel_dot : ℕ → Bool → ℕ → ℕ → Bool
sixel_dot code separated s x = bit code (part_bit s x) && not (separated && is_gap s x)

-- half dot x of line s of a shape
abbrev pub shape_dot : Font → Shape → ℕ → ℕ → Bool
shape_dot font Blank s x = false
shape_dot font (Letter code) s x = letter_dot font code s x
shape_dot font (Graphic sixel) s x = sixel_dot sixel.code sixel.separated s x
