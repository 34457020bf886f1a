-- The positional words: those that are neither options nor their values.
use Rattle.std.specs.Prelude.{ℕ, ◌&&◌, ◌||◌, ◌==◌, Bool, true, false, not, List, [], ◌∷◌, Option, Some, None, if◌then◌else◌, codes}
use Rattle.std.specs.Str.{bytes_eq}

-- a word that begins with `-`
abbrev pub is_dashed : List ℕ → Bool
is_dashed [] = false
is_dashed (b ∷ bs) = b == 45

-- an option that is one word, with no value after it
abbrev pub is_flag : List ℕ → Bool
is_flag word = bytes_eq word (codes "--no-tube") || bytes_eq word (codes "--counts")

-- a key, with its value after it: every other word that begins with `-`
abbrev pub takes_value : List ℕ → Bool
takes_value word = not (is_flag word) && is_dashed word

-- a word that isn't empty and doesn't begin with `-`
abbrev pub is_name : List ℕ → Bool
is_name [] = false
is_name (b ∷ bs) = not (b == 45)

-- the positional words; if skip is true, the first word is the value of a key before it
abbrev pub alone : Bool → List (List ℕ) → List (List ℕ)
alone skip [] = []
alone false (w ∷ ws) = if takes_value w then alone true ws else if is_flag w then alone false ws else w ∷ alone false ws
alone true (v ∷ ws) = alone false ws

-- the positional words, if there are two
abbrev pub two : List (List ℕ) → Option (List ℕ × List ℕ)
two (a ∷ b ∷ []) = Some (a, b)
two words = None

-- the positional words, if there are three
abbrev pub three : List (List ℕ) → Option (List ℕ × List ℕ × List ℕ)
three (a ∷ b ∷ c ∷ []) = Some (a, b, c)
three words = None

-- the positional words, if there are four
abbrev pub four : List (List ℕ) → Option (List ℕ × List ℕ × List ℕ × List ℕ)
four (a ∷ b ∷ c ∷ d ∷ []) = Some (a, b, c, d)
four words = None
