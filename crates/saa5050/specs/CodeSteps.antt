-- The part of a control code's effect after the code's own cell, as the program does it.
use Rattle.std.specs.Prelude.{ℕ, ◌||◌, nat_lt, nat_le, Bool, if◌then◌else◌}
use Rattle.saa5050.specs.declared.style.Style.{Style}
use Rattle.saa5050.specs.Controls.{controls, holds_at_once}
use Rattle.saa5050.specs.Row.{style_after}

-- the style after the code's own cell, from the style in it, which already has the effect of a
-- set-at code
abbrev pub style_past : ℕ → Style → Style
style_past code s = if holds_at_once controls code then s else style_after code s

-- the cell of a code may show something other than a steady letter of normal height
abbrev pub is_special : ℕ → ℕ → Bool → Style → Bool
is_special code ra bottom s = nat_lt code 0x20 || nat_le 20 ra || bottom || s.graphics || s.flashing || s.concealed || s.double
