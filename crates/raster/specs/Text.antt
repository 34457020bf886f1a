-- Teletext rows, and which of them are bottom rows. (SAA5050 data sheet, Double Height.)
use Rattle.std.specs.Prelude.{ℕ, ◌&&◌, ◌||◌, Bool, false, List, not, if◌then◌else◌}
use Rattle.crtc6845.specs.declared.Beam.{Beam}
use Rattle.saa5050.specs.Shapes.{Font}
use Rattle.saa5050.specs.Row.{Row, row_start, row_after, cell}

pub record Text : Type 0 where
  -- the state after the codes of the current line
  pub codes : Row
  -- the row shows the lower halves of characters of double height
  pub bottom : Bool
  -- one of the row's lines had a code for double height
  pub doubled : Bool

abbrev pub first_text : Text
first_text = record { codes = row_start; bottom = false; doubled = false }

-- the codes are taken from the start of each line
abbrev pub text_at : Beam → Text → Text
text_at beam t = if beam.line_start then record t { codes = row_start } else t

-- The state after one more code, and the colours of its cell, are those of the SAA5050. (Proofs
-- here do not unfold them.)
unfoldable pub codes_after : ℕ → Row → Row
codes_after code codes = row_after code codes

unfoldable pub cell_of : Font → ℕ → Beam → Text → List ℕ
cell_of font code beam t = cell font code beam.ra t.bottom beam.fields t.codes

abbrev pub text_after : ℕ → Text → Text
text_after code t = record t { codes = codes_after code t.codes; doubled = t.doubled || (codes_after code t.codes).had_double }

-- A row is a bottom row if the row above was not one and had such a code on any of its lines. The
-- first row has no row above.
abbrev pub next_row : Text → Text
next_row t = record t { bottom = not t.bottom && t.doubled; doubled = false }

abbrev pub first_row : Text → Text
first_row t = record t { bottom = false; doubled = false }

abbrev pub text_past : Beam → Text → Text
text_past beam t = if beam.restart then first_row t else if beam.row_end then next_row t else t
