-- The words of a line.
use Rattle.std.specs.Prelude.{ℕ, ◌==◌, List, [], ◌∷◌, if◌then◌else◌}

-- the words with a byte before the first of them
abbrev pub begin_word : ℕ → List (List ℕ) → List (List ℕ)
begin_word b [] = (b ∷ []) ∷ []
begin_word b (word ∷ words) = (b ∷ word) ∷ words

-- The words of a line, with one space between each and the next.
abbrev pub words_of : List ℕ → List (List ℕ)
words_of [] = [] ∷ []
words_of (b ∷ line) = if b == 32 then [] ∷ words_of line else begin_word b (words_of line)
