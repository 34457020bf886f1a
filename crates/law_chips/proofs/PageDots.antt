-- The dots of the finished frame in teletext mode, while no register is written.
use Rattle.std.proofs.Common.{◌≡◌, ◌∙◌, sym, ap, subst, refl, ℕ, zero, suc, ◌+◌, ◌-◌, ◌/◌, ◌%◌, ◌<◌, ◌≤◌, ◌⊎◌, Bool, true, false, map, List, ◌∷◌}
use Rattle.std.proofs.Common.{length}
use Rattle.std.proofs.Common.{reverse, arith, inl, inr}
use Rattle.std.specs.Prelude.{slice_index, if◌then◌else◌}
use Rattle.std.proofs.lemmas.List.{get_or-take, get_or-map, reverse-reverse}
use Rattle.std.proofs.lemmas.Grind.{reverse_onto}
use Rattle.beeb_bits.specs.Bits.{bit}
use Rattle.crtc6845.specs.declared.Beam.{Beam}
use Rattle.crtc6845.specs.State as crtc
use Rattle.crtc6845.specs.Clock.{beam_of}
use Rattle.crtc6845.specs.Laws.{tells, line_characters}
use Rattle.crtc6845.specs.Pictures.{column_at, ShownAddressesCount}
use Rattle.video_ula.specs.State as ula
use Rattle.video_ula.specs.Pixels.{dots_of, under_cursor}
use Rattle.saa5050.specs.Shapes.{Font}
use Rattle.saa5050.specs.Row.{Row, row_start, row_after, row_of, cell}
use Rattle.saa5050.specs.Laws.{OneCodeMore}
use Rattle.raster.specs.Frame.{dots_set}
use Rattle.raster.specs.Beam.{Cursor, place_at, byte_address, is_marked}
use Rattle.raster.specs.Text.{Text, text_at, codes_after, cell_of, text_after, text_past}
use Rattle.raster.specs.State.{State}
use Rattle.raster.specs.Clock.{cell_dots, char_clock_leaves}
use Rattle.law_chips.specs.ShownBytes.{char_clocks, raster_at, is_shown_at, cursor_before, is_marked_at, CharactersAreShown, MakesFrames}
use Rattle.law_chips.specs.TeletextCells.{pixels_of, CellsShowTheirCodes}
use Rattle.law_chips.specs.TeletextFrames.{code_at, codes_before, cell_at, FramesShowTheirCells, RestOfPageIsBlack}
use Rattle.law_chips.proofs.BeamWalk.{next_place, test_true, test_false}
use Rattle.law_chips.proofs.BeamWalk.{frame_at, by_itself, same_ula}
use Rattle.law_chips.proofs.BeamWalk.{Laws, eight_or_sixteen}
use Rattle.law_chips.proofs.Drawn.{cursor_was}
use Rattle.law_chips.proofs.Drawn.{Shows, finished_dot}
use Rattle.law_chips.proofs.Drawn.{free_is_black}

-- ---- One clock.

in_text : (p q : Bool) (x y s : State) → q ≡ true → (if p then (if q then x else y) else s).text ≡ (if p then x.text else s.text)
in_text p q x y s on = grind arith

in_cells : (p q : Bool) (x y s : State) → q ≡ true → (if p then (if q then x else y) else s).working ≡ (if p then x.working else s.working)
in_cells p q x y s on = grind arith

-- the code of a character, by the 6845's outputs
pub told_code : List ℕ → ℕ → Beam → ℕ
told_code ram size b = slice_index ram (byte_address b.ma b.ra size) % 128

-- the dots of its cell
pub told_dots : List ℕ → ℕ → Font → Beam → State → List ℕ
told_dots ram size font b s = cell_dots s.ula (cell_of font (told_code ram size b) b (text_at b s.text)) (is_marked s.ula.control b.cursor s.cursor)

pub record Told (ram : List ℕ) (size : ℕ) (font : Font) (b : Beam) (s x : State) : Type 0 where
  pub text : x.text ≡ text_past b (if b.shown then text_after (told_code ram size b) (text_at b s.text) else text_at b s.text)
  pub working :
      x.working
      ≡ (if b.shown then dots_set 208 (place_at b s.place).x (place_at b s.place).y (told_dots ram size font b s) (frame_at b s) else frame_at b s)

one_told : (ram : List ℕ) (size : ℕ) (font : Font) (s : State) → bit s.ula.control 1 ≡ true →
    Told ram size font (beam_of s.crtc) s (char_clock_leaves ram size font s)
unfolding char_clock_leaves told_code told_dots
one_told ram size font s on = grind (arith, in_text, in_cells)

pub told : (ram : ℕ → List ℕ) (size : ℕ → ℕ) (font : Font) (s : State) → bit s.ula.control 1 ≡ true → (n : ℕ) →
    Told (ram n) (size n) font (tells n s.crtc) (char_clocks ram size font n s) (char_clocks ram size font (suc n) s)
told ram size font s on n =
    subst (λ (c : crtc.State). Told (ram n) (size n) font (beam_of c) (char_clocks ram size font n s) (char_clocks ram size font (suc n) s))
    (by_itself ram size font s n)
    (one_told (ram n) (size n) font (char_clocks ram size font n s) (ap (λ (u : ula.State). bit u.control 1) (same_ula ram size font s n) ∙ on))

-- ---- The codes of a line.

-- the end of a line, or of a row, leaves the codes
past_keeps : (b : Beam) (t : Text) → (text_past b t).codes ≡ t.codes
past_keeps b t = grind arith

pub bottom_kept : (b : Beam) (t : Text) → (text_at b t).bottom ≡ t.bottom
bottom_kept b t = grind arith

pub codes_at : (b : Beam) (t : Text) (p : Bool) → b.line_start ≡ p → (text_at b t).codes ≡ (if p then row_start else t.codes)
codes_at b t p is = grind arith

-- the 6845's outputs for a shown character
pub record Here (ram : ℕ → List ℕ) (size : ℕ → ℕ) (s : State) (n : ℕ) : Type 0 where
  pub code : told_code (ram n) (size n) (tells n s.crtc) ≡ code_at ram size s.crtc.registers n
  pub raster : (tells n s.crtc).ra ≡ raster_at s.crtc.registers n

pub here : ShownAddressesCount → CharactersAreShown → (ram : ℕ → List ℕ) (size : ℕ → ℕ) (s : State) (n : ℕ) → MakesFrames s.crtc →
    (tells n s.crtc).shown ≡ true →
    Here ram size s n
unfolding told_code
here count characters ram size s n makes is = grind arith

-- the character before one that is shown is shown, in its line
shown_before : (r : crtc.Registers) (k j : ℕ) → k % line_characters r ≡ j → (k + 1) % line_characters r ≡ j + 1 →
    (k + 1) / line_characters r ≡ k / line_characters r →
    is_shown_at r (k + 1) ≡ true → is_shown_at r k ≡ true
shown_before r k j column next line is = grind arith

more_codes : OneCodeMore → (before : List ℕ) (code : ℕ) → row_after code (row_of (reverse before)) ≡ row_of (reverse (code ∷ before))
more_codes one before code = grind (arith, reverse_onto)

after_code : (code : ℕ) (t : Text) → (text_after code t).codes ≡ row_after code t.codes
unfolding codes_after
after_code code t = refl

after_one : (w n j : ℕ) → n % w ≡ suc j → n ≡ n - 1 + 1
after_one w n j column = grind arith

codes_are : OneCodeMore → Laws → ShownAddressesCount → CharactersAreShown → (ram : ℕ → List ℕ) (size : ℕ → ℕ) (font : Font) (s : State) → MakesFrames s.crtc →
    bit s.ula.control 1 ≡ true → (j n : ℕ) → column_at s.crtc.registers n ≡ j → is_shown_at s.crtc.registers n ≡ true →
    (text_at (tells n s.crtc) (char_clocks ram size font n s).text).codes ≡ row_of (reverse (codes_before ram size s.crtc.registers n j))
codes_are one laws count characters ram size font s makes on zero n column is =
    codes_at (tells n s.crtc) (char_clocks ram size font n s).text true
    (laws.lines s.crtc n makes.bits makes.begins.character ∙ test_true (n % line_characters s.crtc.registers) 0 column)
codes_are one laws count characters ram size font s makes on (suc j) n column is =
    let r = s.crtc.registers in
    let w = line_characters r in
    let k = n - 1 in
    let some : n ≡ k + 1 = after_one w n j column in
    let next : n ≡ suc k = omega arith in
    let x = char_clocks ram size font k s in
    let b = tells k s.crtc in
    let here_too : (k + 1) % w ≡ suc j = ap (λ i. i % w) (sym some) ∙ column in
    elim (next_place w k (omega arith)) [
      | inl o ↦ let none : (k + 1) % w ≡ 0 = o.0 in absurd (omega arith)
      | inr o ↦
          let line : (k + 1) / w ≡ k / w = o.1.0 in
          let column_k : k % w ≡ j = omega arith in
          let column_n : (k + 1) % w ≡ j + 1 = omega arith in
          let is_k : is_shown_at r k ≡ true = shown_before r k j column_k column_n line (ap (is_shown_at r) (sym some) ∙ is) in
          let shown : b.shown ≡ true = characters.which s.crtc k makes.bits makes.begins ∙ is_k in
          let inner : (tells n s.crtc).line_start ≡ false =
          laws.lines s.crtc n makes.bits makes.begins.character ∙ test_false (n % w) 0 (λ none. omega arith) in
          codes_at (tells n s.crtc) (char_clocks ram size font n s).text false inner
          ∙ ap (λ i. (char_clocks ram size font i s).text.codes) next
          ∙ ap (λ (t : Text). t.codes) (told ram size font s on k).text
          ∙ past_keeps b (if b.shown then text_after (told_code (ram k) (size k) b) (text_at b x.text) else text_at b x.text)
          ∙ ap (λ q. (if q then text_after (told_code (ram k) (size k) b) (text_at b x.text) else text_at b x.text).codes) shown
          ∙ after_code (told_code (ram k) (size k) b) (text_at b x.text)
          ∙ ap (λ c. row_after c (text_at b x.text).codes) (here count characters ram size s k makes shown).code
          ∙ ap (row_after (code_at ram size r k)) (codes_are one laws count characters ram size font s makes on j k column_k is_k)
          ∙ more_codes one (codes_before ram size r k j) (code_at ram size r k)
    ]

-- ---- The dots of a cell.

cell_length : (font : Font) (code ra : ℕ) (lower : Bool) (fields : ℕ) (row : Row) → length (cell font code ra lower fields row) ≡ 16
cell_length font code ra lower fields row = grind arith

within_sixteen : (dots d : ℕ) → (dots ≡ 8) ⊎ (dots ≡ 16) → d < dots → d < 16
within_sixteen dots d widths within = grind arith

told_many : (ram : List ℕ) (size : ℕ) (font : Font) (b : Beam) (s : State) → length (told_dots ram size font b s) ≡ dots_of s.ula.control
unfolding told_dots told_code cell_of
told_many ram size font b s = grind arith

told_dot : (ram : List ℕ) (size : ℕ) (font : Font) (b : Beam) (s : State) (d : ℕ) → d < dots_of s.ula.control →
    slice_index (told_dots ram size font b s) d
    ≡ under_cursor (is_marked s.ula.control b.cursor s.cursor)
    (slice_index (cell font (told_code ram size b) b.ra s.text.bottom b.fields (text_at b s.text).codes) d)
unfolding told_dots told_code cell_of
told_dot ram size font b s d within =
    let t = text_at b s.text in
    let code = slice_index ram (byte_address b.ma b.ra size) % 128 in
    let c = cell font code b.ra t.bottom b.fields t.codes in
    let marked = is_marked s.ula.control b.cursor s.cursor in
    let long : length c ≡ 16 = cell_length font code b.ra t.bottom b.fields t.codes in
    let inside : d < 16 = within_sixteen (dots_of s.ula.control) d (eight_or_sixteen s.ula.control) within in
    get_or-take (dots_of s.ula.control) (map (under_cursor marked) c) d 0 within
    ∙ get_or-map (under_cursor marked) c d 0 0 (omega arith)
    ∙ ap (λ lower. under_cursor marked (slice_index (cell font code b.ra lower b.fields t.codes) d)) (bottom_kept b s.text)

cells_shown : (ram : ℕ → List ℕ) (size : ℕ → ℕ) (font : Font) (s : State) → bit s.ula.control 1 ≡ true →
    Shows 208 ram size font s (λ n. told_dots (ram n) (size n) font (tells n s.crtc) (char_clocks ram size font n s))
cells_shown ram size font s on = grind (arith, told_many, same_ula, told)

-- a dot of the character of clock n
colour_is : OneCodeMore → CellsShowTheirCodes → Laws → ShownAddressesCount → CharactersAreShown → (ram : ℕ → List ℕ) (size : ℕ →
    ℕ) (font : Font) (s : State) (n d : ℕ) →
    MakesFrames s.crtc → bit s.ula.control 1 ≡ true → 3 ≤ n → is_shown_at s.crtc.registers n ≡ true → d < dots_of s.ula.control →
    slice_index (told_dots (ram n) (size n) font (tells n s.crtc) (char_clocks ram size font n s)) d
    ≡ under_cursor (is_marked_at s.ula.control s.crtc n) (slice_index (cell_at ram size font s n) d)
colour_is one cells laws count characters ram size font s n d makes on three is within =
    let r = s.crtc.registers in
    let b = tells n s.crtc in
    let x = char_clocks ram size font n s in
    let shown : b.shown ≡ true = characters.which s.crtc n makes.bits makes.begins ∙ is in
    let h = here count characters ram size s n makes shown in
    let before = codes_before ram size r n (column_at r n) in
    let code = code_at ram size r n in
    let lower = x.text.bottom in
    let codes = codes_are one laws count characters ram size font s makes on (column_at r n) n refl is in
    let fits : d < dots_of x.ula.control = subst (λ (u : ula.State). d < dots_of u.control) (sym (same_ula ram size font s n)) within in
    let shows = λ (u : ula.State) (c : Cursor) (cs : List ℕ). under_cursor (is_marked u.control b.cursor c) (slice_index cs d) in
    told_dot (ram n) (size n) font b x d fits
    ∙ ap (λ (u : ula.State). shows u x.cursor (cell font (told_code (ram n) (size n) b) b.ra lower b.fields (text_at b x.text).codes))
    (same_ula ram size font s n)
    ∙ ap (λ (c : Cursor). shows s.ula c (cell font (told_code (ram n) (size n) b) b.ra lower b.fields (text_at b x.text).codes))
    (cursor_was ram size font s n three)
    ∙ ap (λ i. shows s.ula (cursor_before s.crtc n) (cell font i b.ra lower b.fields (text_at b x.text).codes)) h.code
    ∙ ap (λ i. shows s.ula (cursor_before s.crtc n) (cell font code i lower b.fields (text_at b x.text).codes)) h.raster
    ∙ ap (λ row. shows s.ula (cursor_before s.crtc n) (cell font code (raster_at r n) lower b.fields row)) codes
    ∙ ap (shows s.ula (cursor_before s.crtc n)) (cells font (reverse before) code (raster_at r n) lower b.fields)
    ∙ ap (λ cs. shows s.ula (cursor_before s.crtc n) (pixels_of font code cs (raster_at r n) lower b.fields)) (reverse-reverse before)

pub frames_show_their_cells : OneCodeMore → CellsShowTheirCodes → Laws → ShownAddressesCount → CharactersAreShown → FramesShowTheirCells
frames_show_their_cells one cells laws count characters ram size font s n d m makes on runs met within here_is after before =
    let is : (tells n s.crtc).shown ≡ true = characters.which s.crtc n makes.bits makes.begins ∙ met in
    finished_dot laws 208 ram size font s (λ n. told_dots (ram n) (size n) font (tells n s.crtc) (char_clocks ram size font n s)) makes
    (cells_shown ram size font s on) n d m runs is within here_is after before
    ∙ colour_is one cells laws count characters ram size font s n d makes on runs.three met within

pub rest_of_page_is_black : Laws → CharactersAreShown → RestOfPageIsBlack
rest_of_page_is_black laws characters ram size font s k x y m makes on late here_is free after before =
    free_is_black laws characters 208 ram size font s (λ n. told_dots (ram n) (size n) font (tells n s.crtc) (char_clocks ram size font n s)) k x y makes
    (cells_shown ram size font s on) late here_is free m after before
