-- The colours of both frames, clock by clock.
use Rattle.std.proofs.Common.{ℕ, ◌+◌, ◌-◌, ◌*◌, ◌/◌, ◌%◌, ◌<◌, ◌&&◌, Bool, true, false, List, [], ◌∷◌, map, arith}
use Rattle.std.specs.Prelude.{⊤, slice_index, slice_index_or, slice_set, if◌then◌else◌}
use Rattle.std.specs.List.{range_with_len}
use Rattle.std.proofs.lemmas.List.Elements.{All-head, All-tail, All-set, All-replicate, All-map, All-take}
use Rattle.std.proofs.lemmas.Nat.{xor_lt}
use Rattle.beeb_bits.specs.Bits.{bit}
use Rattle.beeb_bits.specs.Zeros.{zeros}
use Rattle.crtc6845.specs.declared.Beam.{Beam}
use Rattle.crtc6845.specs.Clock.{beam_of, clock_leaves}
use Rattle.video_ula.specs.State as ula
use Rattle.video_ula.specs.Pixels.{dots_of, colour_of, under_cursor, dot_colour}
use Rattle.saa5050.specs.declared.style.Style.{Style}
use Rattle.saa5050.specs.Shapes.{Font}
use Rattle.saa5050.specs.Controls.{Control, controls, has, effect_of}
use Rattle.saa5050.specs.Row.{Row, style_at, style_after, cell_dot, pixel}
use Rattle.raster.specs.Frame.{black, is_in_frame, dot_set, dots_set}
use Rattle.raster.specs.Beam.{byte_address}
use Rattle.raster.specs.Text.{Text, text_at, codes_after, cell_of, text_past}
use Rattle.raster.specs.State.{State}
use Rattle.raster.specs.Clock.{begin_leaves, byte_dots, cell_dots, draw_byte_leaves, draw_cell_leaves, draw_leaves, show_leaves, tell_leaves, char_clock_leaves}
use Rattle.law_chips.specs.PictureRuns.{Move, after_move, after_moves}
use Rattle.law_chips.specs.Colours.{AreColours, DotsAreColours}

-- a colour from 0 to 7
either : (b : Bool) (x y : ℕ) → x < 8 → y < 8 → (if b then x else y) < 8
either true x y p q = p
either false x y p q = q

both : (b : Bool) (xs ys : List ℕ) → AreColours xs → AreColours ys → AreColours (if b then xs else ys)
both true xs ys p q = p
both false xs ys p q = q

-- ---- The dots of a byte.

inverted : (b : Bool) (c : ℕ) → c < 8 → under_cursor b c < 8
inverted b c is = xor_lt 3 c (if b then 7 else 0) is (either b 7 0 (omega arith) (omega arith))

valued : (flash : Bool) (value : ℕ) → colour_of flash value < 8
valued flash value =
    xor_lt 3 (value % 8) (if bit value 3 && flash then 7 else 0) (omega arith)
    (either (bit value 3 && flash) 7 0 (omega arith) (omega arith))

dotted : (u : ula.State) (byte : ℕ) (cursor : Bool) (d : ℕ) → dot_colour u byte cursor d < 8
dotted u byte cursor d = grind (arith, inverted, valued)

byte_colours : (u : ula.State) (byte ra : ℕ) (marked : Bool) → AreColours (byte_dots u byte ra marked)
byte_colours u byte ra marked =
    both (bit ra 3) _ _
    (All-replicate (λ (c : ℕ). c < 8) (dots_of u.control) (under_cursor marked 0) (inverted marked 0 (omega arith)))
    (All-map (λ (c : ℕ). c < 8) (dot_colour u byte marked) (range_with_len 0 (dots_of u.control))
    (λ k d within. dotted u byte marked (slice_index_or (range_with_len 0 (dots_of u.control)) k d)))

-- ---- The dots of a cell of teletext.

-- both colours of a style
record Inks (s : Style) : Type 0 where
  pub foreground : s.foreground < 8
  pub background : s.background < 8

inks_if : (b : Bool) (x y : Style) → Inks x → Inks y → Inks (if b then x else y)
inks_if true x y p q = p
inks_if false x y p q = q

abbrev Keeps : Control → Type 0
Keeps c = (code : ℕ) (s : Style) → Inks s → Inks (c.effect code s)

abbrev AllKeep : List Control → Type 0
AllKeep [] = ⊤
AllKeep (c ∷ cs) = Keeps c × AllKeep cs

-- the effects of the table, line by line
controls_keep : AllKeep controls
controls_keep = omega arith

obeyed_inks : (cs : List Control) → AllKeep cs → (code : ℕ) (s : Style) → Inks s → Inks (effect_of cs code s)
obeyed_inks [] keep code s i = i
obeyed_inks (c ∷ cs) keep code s i =
    inks_if (has c code) (c.effect code s) (effect_of cs code s) (keep.0 code s i) (obeyed_inks cs keep.1 code s i)

inks_at : (code : ℕ) (s : Style) → Inks s → Inks (style_at code s)
inks_at code s i = grind (arith, inks_if, obeyed_inks, controls_keep)

inks_after : (code : ℕ) (s : Style) → Inks s → Inks (style_after code s)
inks_after code s i = grind (arith, inks_if, obeyed_inks, controls_keep)

cell_colours : (font : Font) (code : ℕ) (beam : Beam) (t : Text) → Inks t.codes.style → AreColours (cell_of font code beam t)
unfolding cell_of
cell_colours font code beam t i =
    let s = style_at code t.codes.style in
    let on = cell_dot font code beam.ra t.bottom beam.fields s in
    let ink : Inks s = inks_at code t.codes.style i in
    All-map (λ (c : ℕ). c < 8) (pixel on s.foreground s.background) (range_with_len 0 16)
    (λ k d within. either (on (3 * slice_index_or (range_with_len 0 16) k d / 4)) s.foreground s.background ink.foreground ink.background)

codes_inks : (code : ℕ) (codes : Row) → Inks codes.style → Inks (codes_after code codes).style
unfolding codes_after
codes_inks code codes i = inks_after code codes.style i

shown_colours : (u : ula.State) (cell : List ℕ) (marked : Bool) → AreColours cell → AreColours (cell_dots u cell marked)
shown_colours u cell marked are =
    All-take (λ (c : ℕ). c < 8) (dots_of u.control) (map (under_cursor marked) cell)
    (All-map (λ (c : ℕ). c < 8) (under_cursor marked) cell (λ k d within. inverted marked (slice_index_or cell k d) (are k d within)))

-- ---- The frame.

set_colours : (left x y : ℕ) (dots frame : List ℕ) → AreColours dots → AreColours frame → AreColours (dots_set left x y dots frame)
set_colours left x y [] frame dots are = are
set_colours left x y (c ∷ cs) frame dots are =
    set_colours left (x + 1) y cs (dot_set left x y c frame) (All-tail (λ (c : ℕ). c < 8) c cs dots)
    (both (is_in_frame left x y) (slice_set frame (640 * (y - 40) + (x - left)) c) frame
    (All-set (λ (c : ℕ). c < 8) frame (640 * (y - 40) + (x - left)) c (All-head (λ (c : ℕ). c < 8) c cs dots) are) are)

black_colours : AreColours black
unfolding zeros
black_colours = All-replicate (λ (c : ℕ). c < 8) 163840 0 (omega arith)

-- both frames have colours, and so has the text to come
record IsColoured (s : State) : Type 0 where
  pub text : Inks s.text.codes.style
  pub working : AreColours s.working
  pub finished : AreColours s.finished

coloured_if : (b : Bool) (x y : State) → IsColoured x → IsColoured y → IsColoured (if b then x else y)
coloured_if true x y p q = p
coloured_if false x y p q = q

text_at_inks : (beam : Beam) (t : Text) → Inks t.codes.style → Inks (text_at beam t).codes.style
text_at_inks beam t i = grind arith

text_past_inks : (beam : Beam) (t : Text) → Inks t.codes.style → Inks (text_past beam t).codes.style
text_past_inks beam t i = grind arith

begun_coloured : (beam : Beam) (s : State) → IsColoured s → IsColoured (begin_leaves beam s)
begun_coloured beam s h = grind (arith, text_at_inks, both, black_colours)

byte_coloured : (beam : Beam) (byte : ℕ) (s : State) → IsColoured s → IsColoured (draw_byte_leaves beam byte s)
byte_coloured beam byte s h = grind (arith, set_colours, byte_colours)

cell_coloured : (font : Font) (beam : Beam) (code : ℕ) (s : State) → IsColoured s → IsColoured (draw_cell_leaves font beam code s)
cell_coloured font beam code s h = grind (arith, codes_inks, set_colours, shown_colours, cell_colours)

told_coloured : (ram : List ℕ) (size : ℕ) (font : Font) (beam : Beam) (s : State) → IsColoured s → IsColoured (tell_leaves ram size font beam s)
told_coloured ram size font beam s h =
    let x = begin_leaves beam s in
    let byte = slice_index ram (byte_address beam.ma beam.ra size) in
    let begins : IsColoured x = begun_coloured beam s h in
    let shows : IsColoured (show_leaves ram size font beam x) =
    coloured_if beam.shown (draw_leaves ram size font beam x) x
    (coloured_if (bit x.ula.control 1) (draw_cell_leaves font beam (byte % 128) x) (draw_byte_leaves beam byte x)
    (cell_coloured font beam (byte % 128) x begins) (byte_coloured beam byte x begins)) begins in
    record { text = text_past_inks beam (show_leaves ram size font beam x).text shows.text; working = shows.working; finished = shows.finished }

clock_coloured : (ram : List ℕ) (size : ℕ) (font : Font) (s : State) → IsColoured s → IsColoured (char_clock_leaves ram size font s)
unfolding char_clock_leaves
clock_coloured ram size font s h =
    told_coloured ram size font (beam_of s.crtc) (record s { crtc = clock_leaves s.crtc })
    (assumption)

moved : (m : Move) (s : State) → IsColoured s → IsColoured (after_move m s)
moved m s h = grind (arith, clock_coloured, coloured_if)

all_moved : (moves : List Move) (s : State) → IsColoured s → IsColoured (after_moves moves s)
all_moved [] s h = h
all_moved (m ∷ moves) s h = all_moved moves (after_move m s) (moved m s h)

pub dots_are_colours : DotsAreColours
dots_are_colours = grind (arith, black_colours, all_moved)
