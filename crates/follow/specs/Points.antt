-- A file of addresses, one on each line: four upper-case hexadecimal digits and a line feed. The
-- addresses rise from line to line. (This project's own format.)
use Rattle.std.specs.Prelude.{ℕ, ◌≡◌, ◌+◌, ◌==◌, ◌&&◌, nat_lt, Bool, true, false, List, [], ◌∷◌, length, map}
use Rattle.std.specs.Prelude.{take, replicate, slice_set, slice_index_or, Option, Some, None, Result, Ok, Err, if◌then◌else◌}
use Rattle.std.specs.List.{list_all}
use Rattle.digits.specs.Hexadecimal.{hex_number, is_hex}
use Rattle.digits.specs.Lines.{text_lines}
use Rattle.follow.specs.declared.points.PointsError.{PointsError}
use Rattle.follow.specs.declared.points.PointsError.TheVariants.{BadLine, BadOrder}

-- The line is in form.
abbrev pub is_point : List ℕ → Bool
is_point line = length line == 5 && list_all is_hex (take 4 line) && slice_index_or line 4 0 == 10

-- the address of a line, or none if the line is outside the form
abbrev pub point_of : List ℕ → Option ℕ
point_of line = if is_point line then Some (hex_number (take 4 line)) else None

-- The meaning of the lines from number `line` on, if `marked` are the addresses above them and the
-- next address must be at least `least`: all marked addresses, or the first line that is outside
-- the form or does not rise.
abbrev pub points_from : ℕ → ℕ → List Bool → List (Option ℕ) → Result (List Bool) PointsError
points_from line least marked [] = Ok marked
points_from line least marked (None ∷ lines) = Err (BadLine line)
points_from line least marked (Some at ∷ lines) =
    if nat_lt at least then Err (BadOrder line) else points_from (line + 1) (at + 1) (slice_set marked at true) lines

-- the address of each line of a text, or none for a line that is outside the form
abbrev pub points_of_lines : List ℕ → List (Option ℕ)
points_of_lines text = map point_of (text_lines text)

-- The first line of the text is outside the form.
abbrev pub BeginsBadly : List ℕ → Type 0
BeginsBadly text = (more : List (Option ℕ)) × (points_of_lines text ≡ None ∷ more)

-- The meaning of a text: for each of the 65,536 addresses, whether a line names it. Lines count
-- from 1.
unfoldable pub points : List ℕ → Result (List Bool) PointsError
points text = points_from 1 0 (replicate 65536 false) (points_of_lines text)
