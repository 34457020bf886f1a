-- The frame: 256 lines of 640 dots, from the top, each with a colour of three bits. (The picture's
-- place in the frame is this project's profile.)
use Rattle.std.specs.Prelude.{ℕ, ◌+◌, ◌-◌, ◌*◌, ◌&&◌, nat_lt, nat_le, Bool, List, [], ◌∷◌, slice_set, if◌then◌else◌}
use Rattle.beeb_bits.specs.Zeros.{zeros}

abbrev pub black : List ℕ
black = zeros 163840

-- Dots x and lines y count from the beginnings of both syncs. The dot is in column x - left and
-- line y - 40 of the frame, if the frame has them.
abbrev pub is_in_frame : ℕ → ℕ → ℕ → Bool
is_in_frame left x y = nat_le left x && nat_lt x (left + 640) && nat_le 40 y && nat_lt y 296

abbrev pub dot_set : ℕ → ℕ → ℕ → ℕ → List ℕ → List ℕ
dot_set left x y colour frame = if is_in_frame left x y then slice_set frame (640 * (y - 40) + (x - left)) colour else frame

-- The dots of a character, side by side, the first of them at x.
abbrev pub dots_set : ℕ → ℕ → ℕ → List ℕ → List ℕ → List ℕ
dots_set left x y [] frame = frame
dots_set left x y (colour ∷ colours) frame = dots_set left (x + 1) y colours (dot_set left x y colour frame)
