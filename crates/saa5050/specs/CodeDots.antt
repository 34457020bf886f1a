-- A line of a cell as the program stores it: its twelve half dots as the bits of a word, the
-- leftmost the highest.
use Rattle.std.specs.Prelude.{ℕ, ◌-◌, ◌/◌, ◌<◌, ◌≤◌, ⊤, ◌≡◌, ◌&&◌, not, Bool, nat_lt, if◌then◌else◌}
use Rattle.beeb_bits.specs.Bits.{bit}
use Rattle.saa5050.specs.declared.style.Shape.{Shape}
use Rattle.saa5050.specs.declared.style.Shape.TheVariants.{Blank, Letter, Graphic}
use Rattle.saa5050.specs.Shapes.{dot, is_among, gap_dots}

abbrev pub IsLine : ℕ → (ℕ → Bool) → Type 0
IsLine word on = (x : ℕ) → x < 12 → bit word (11 - x) ≡ on x

-- the dots of a row, each of them twice
abbrev pub doubled_dot : ℕ → ℕ → Bool
doubled_dot row x = dot row (x / 2)

-- two columns of a sixel, with or without gaps
abbrev pub columns : Bool → Bool → Bool → ℕ → Bool
columns left right separated x = (if nat_lt x 6 then left else right) && not (separated && is_among x gap_dots)

-- a letter is one of a code that the font has
abbrev pub IsInFont : Shape → Type 0
IsInFont Blank = ⊤
IsInFont (Letter code) = (0x20 ≤ code) × (code ≤ 0x7F)
IsInFont (Graphic sixel) = ⊤
