-- The control codes of a teletext row: the effect of each on the row's style, and the first cell
-- that has it. (SAA5050 data sheet, control characters; that first cell and the effect on the held
-- shape are this project's profile.)
use Rattle.std.specs.Prelude.{ℕ, ◌%◌, ◌&&◌, nat_le, Bool, true, false, List, [], ◌∷◌, None, if◌then◌else◌}
use Rattle.saa5050.specs.declared.style.Style.{Style}

-- at a row's start: white letters on black, steady, not concealed, of normal height; contiguous
-- graphics, released, and no held shape
abbrev pub plain : Style
plain = record {
  foreground = 7;
  background = 0;
  graphics = false;
  flashing = false;
  concealed = false;
  double = false;
  separated = false;
  holding = false;
  held = None;
}

-- The effects. The low three bits of a colour code are its colour. Such a code ends conceal.
abbrev pub glyphs : ℕ → Style → Style
glyphs code s = record s { graphics = false; foreground = code % 8; concealed = false; held = None }

abbrev pub graphics : ℕ → Style → Style
graphics code s = record s { graphics = true; foreground = code % 8; concealed = false }

abbrev pub flash : ℕ → Style → Style
flash code s = record s { flashing = true }

abbrev pub steady : ℕ → Style → Style
steady code s = record s { flashing = false }

-- a change of the height makes the held shape blank
abbrev pub normal_height : ℕ → Style → Style
normal_height code s = record s { double = false; held = if s.double then None else s.held }

abbrev pub double_height : ℕ → Style → Style
double_height code s = record s { double = true; held = if s.double then s.held else None }

abbrev pub conceal : ℕ → Style → Style
conceal code s = record s { concealed = true }

abbrev pub contiguous_graphics : ℕ → Style → Style
contiguous_graphics code s = record s { separated = false }

abbrev pub separated_graphics : ℕ → Style → Style
separated_graphics code s = record s { separated = true }

abbrev pub black_background : ℕ → Style → Style
black_background code s = record s { background = 0 }

abbrev pub new_background : ℕ → Style → Style
new_background code s = record s { background = s.foreground }

abbrev pub hold_graphics : ℕ → Style → Style
hold_graphics code s = record s { holding = true }

abbrev pub release_graphics : ℕ → Style → Style
release_graphics code s = record s { holding = false }

-- A line of the table: the first and the last of its codes, and their effect. If `at_once`, the
-- effect holds from the code's own cell on, otherwise from the next cell on.
pub record Control : Type 0 where
  pub first : ℕ
  pub last : ℕ
  pub effect : ℕ → Style → Style
  pub at_once : Bool

abbrev pub after : ℕ → ℕ → (ℕ → Style → Style) → Control
after first last effect = record { first = first; last = last; effect = effect; at_once = false }

abbrev pub at : ℕ → ℕ → (ℕ → Style → Style) → Control
at first last effect = record { first = first; last = last; effect = effect; at_once = true }

-- The table of the control codes. Other codes below 20 do nothing.
abbrev pub controls : List Control
controls =
    after 0x01 0x07 glyphs
    ∷ after 0x11 0x17 graphics
    ∷ after 0x08 0x08 flash
    ∷ at 0x09 0x09 steady
    ∷ at 0x0C 0x0C normal_height
    ∷ after 0x0D 0x0D double_height
    ∷ at 0x18 0x18 conceal
    ∷ at 0x19 0x19 contiguous_graphics
    ∷ at 0x1A 0x1A separated_graphics
    ∷ at 0x1C 0x1C black_background
    ∷ at 0x1D 0x1D new_background
    ∷ at 0x1E 0x1E hold_graphics
    ∷ after 0x1F 0x1F release_graphics
    ∷ []

abbrev pub has : Control → ℕ → Bool
has control code = nat_le control.first code && nat_le code control.last

-- the style after a code, by the lines of a table; it does not change if no line has the code
abbrev pub effect_of : List Control → ℕ → Style → Style
effect_of [] code s = s
effect_of (c ∷ controls) code s = if has c code then c.effect code s else effect_of controls code s

-- the line of a code in a table holds for the code's own cell
abbrev pub holds_at_once : List Control → ℕ → Bool
holds_at_once [] code = false
holds_at_once (c ∷ controls) code = if has c code then c.at_once else holds_at_once controls code
