-- The lines of a text.
use Rattle.std.specs.Prelude.{ℕ, ◌==◌, List, [], ◌∷◌, if◌then◌else◌}

-- the lines with a byte before the first of them
abbrev pub begin_with : ℕ → List (List ℕ) → List (List ℕ)
begin_with b [] = (b ∷ []) ∷ []
begin_with b (line ∷ lines) = (b ∷ line) ∷ lines

-- The lines of a text, each with its line feed. The last line may lack it.
abbrev pub text_lines : List ℕ → List (List ℕ)
text_lines [] = []
text_lines (b ∷ text) = if b == 10 then (b ∷ []) ∷ text_lines text else begin_with b (text_lines text)
