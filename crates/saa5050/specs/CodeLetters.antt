-- The letters of a font as the program stores them: the half dots of the twenty lines of each, from
-- code 20 on.
use Rattle.std.specs.Prelude.{ℕ, List, ◌+◌, ◌/◌, ◌%◌, ◌<◌, ◌≡◌, length, slice_index}
use Rattle.saa5050.specs.CodeDots.{IsLine}
use Rattle.saa5050.specs.Shapes.{Font, letter_dot}

-- the first n lines of the letters
abbrev pub HasLines : Font → List ℕ → ℕ → Type 0
HasLines font lines n = (i : ℕ) → i < n → IsLine (slice_index lines i) (letter_dot font (i / 20 + 0x20) (i % 20))

-- all 96 letters
pub record AreLetters (font : Font) (lines : List ℕ) : Type 0 where
  pub count : length lines ≡ 1920
  pub each : HasLines font lines 1920
