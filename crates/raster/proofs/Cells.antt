-- Teletext cells side by side.
use Rattle.std.proofs.Common.{◌≡◌, ◌∙◌, sym, ap, refl, ℕ, zero, suc, ◌+◌, ◌*◌, ◌%◌, ◌<◌, ◌≤◌, Bool, true, false, min, List, [], ◌∷◌, length, map, take, drop, add-one, arith}
use Rattle.std.specs.Prelude.{slice_index}
use Rattle.std.specs.Int.Bits.{xor_zero_r}
use Rattle.std.proofs.lemmas.List.{take_all, get_or-drop}
use Rattle.beeb_bits.specs.Bits.{bit}
use Rattle.crtc6845.specs.declared.Span.{Span}
use Rattle.crtc6845.specs.Laws.{clocks}
use Rattle.video_ula.specs.State.{State as UlaState}
use Rattle.video_ula.specs.Pixels.{dots_of, under_cursor, side_by_side}
use Rattle.saa5050.specs.Shapes.{Font}
use Rattle.raster.specs.Beam.{Cursor, byte_address, is_marked}
use Rattle.raster.specs.Frame.{dots_set}
use Rattle.raster.specs.Text.{Text, cell_of, text_after}
use Rattle.raster.specs.State.{State, first_cursor}
use Rattle.raster.specs.Clock.{cell_dots, draw_byte_leaves, draw_cell_leaves, draw_leaves, show_leaves, pass_leaves, char_clock_leaves}
use Rattle.raster.specs.CodeSteps.{char_clocks, drawn_ahead, ArePlain, AreApart, cell_on, code_in, texts, cells}
use Rattle.raster.proofs.Drawing.{dots_set-append}
use Rattle.raster.proofs.Spans.{plain_beam, built, none_built, shown_here, passed, beside, row_long, pick_first, same_row}
use Rattle.raster.proofs.Micros.{chars_behind}

-- a cell has sixteen dots
pub cell_long : (font : Font) (code ra fields : ℕ) (t : Text) → length (cell_on font code ra fields t) ≡ 16
unfolding cell_on
cell_long font code ra fields t = refl

-- One more cell beside those before it.
pub cell_more : (font : Font) (codes : ℕ → ℕ) (ra fields i x y : ℕ) (t : Text) (dots old canvas : List ℕ)
    → canvas ≡ dots_set 208 x y (side_by_side (cells font codes ra fields t) i) old →
    dots ≡ cells font codes ra fields t i → dots_set 208 (x + 16 * i) y dots canvas ≡ dots_set 208 x y (side_by_side (cells font codes ra fields t) (i + 1)) old
cell_more font codes ra fields i x y t dots old canvas so is =
    let strip = cells font codes ra fields t in
    let long : length (side_by_side strip i) ≡ i * 16 = row_long strip 16 i (λ k. cell_long font (codes k) ra fields (texts codes k t)) in
    let at : 16 * i ≡ length (side_by_side strip i) = omega (arith, long) in
    ap (λ (c : List ℕ). dots_set 208 (x + 16 * i) y dots c) so ∙ ap (λ (ds : List ℕ). dots_set 208 (x + 16 * i) y ds (dots_set 208 x y (side_by_side strip i) old)) is
    ∙ ap (λ (k : ℕ). dots_set 208 (x + k) y (strip i) (dots_set 208 x y (side_by_side strip i) old)) at
    ∙ sym (dots_set-append 208 x y (side_by_side strip i) (strip i) old)
    ∙ ap (λ (k : ℕ). dots_set 208 x y (side_by_side strip k) old) (sym (add-one i))

abbrev pub span_codes : List ℕ → ℕ → Span → ℕ → ℕ
span_codes ram size span k = slice_index ram (byte_address ((span.ma + k) % 16384) span.ra size) % 128

unmarked : (xs : List ℕ) → map (under_cursor false) xs ≡ xs
unmarked [] = refl
unmarked (x ∷ xs) = ap (λ y. y ∷ map (under_cursor false) xs) (xor_zero_r x) ∙ ap (λ ys. x ∷ ys) (unmarked xs)

sixteen_dots : (u : UlaState) → bit u.control 4 ≡ false → dots_of u.control ≡ 16
sixteen_dots u off = rw off refl

not_marked : (control : ℕ) (c : Cursor) → bit control 1 ≡ true → is_marked control false c ≡ false
not_marked control c teletext = rw teletext refl

all_sixteen : (u : UlaState) (cell : List ℕ) → bit u.control 4 ≡ false → length cell ≡ 16 → cell_dots u cell false ≡ cell
all_sixteen u cell off long =
    ap (λ (ds : List ℕ). take (dots_of u.control) ds) (unmarked cell) ∙ ap (λ k. take k cell) (sixteen_dots u off) ∙ take_all 16 cell (omega (arith, long))

-- a character of a span, in teletext
draws_cell : (ram : List ℕ) (size : ℕ) (font : Font) (span : Span) (k : ℕ) (t : State) → span.shown ≡ true → bit t.ula.control 1 ≡ true
    → bit t.ula.control 4 ≡ false → t.cursor ≡ first_cursor →
    show_leaves ram size font (plain_beam span k) t
    ≡ record t {
      text = text_after (span_codes ram size span k) t.text;
      working = dots_set 208 t.place.x t.place.y (cell_on font (span_codes ram size span k) span.ra span.fields t.text) t.working;
    }
unfolding plain_beam cell_on cell_of
draws_cell ram size font span k t shown teletext off far =
    let byte = slice_index ram (byte_address ((span.ma + k) % 16384) span.ra size) in
    let code = byte % 128 in
    let cell = cell_on font code span.ra span.fields t.text in
    let drawn = λ (ds : List ℕ). record t { text = text_after code t.text; working = dots_set 208 t.place.x t.place.y ds t.working } in
    pick_first span.shown (draw_leaves ram size font (plain_beam span k) t) t shown
    ∙ pick_first (bit t.ula.control 1) (draw_cell_leaves font (plain_beam span k) code t) (draw_byte_leaves (plain_beam span k) byte t) teletext
    ∙ ap (λ (m : Bool). drawn (cell_dots t.ula cell m)) (not_marked t.ula.control t.cursor teletext)
    ∙ ap drawn (all_sixteen t.ula cell off (cell_long font code span.ra span.fields t.text))

abbrev cells_set : Font → List ℕ → ℕ → Span → State → ℕ → List ℕ
cells_set font ram size span s n = dots_set 208 s.place.x s.place.y (side_by_side (cells font (span_codes ram size span) span.ra span.fields s.text) n) s.working

cells_row : (ram : List ℕ) (size : ℕ) (font : Font) (span : Span) (m n : ℕ) (s : State) → ArePlain span m s → n ≤ m → span.shown ≡ true → bit s.ula.control 1 ≡ true →
    bit s.ula.control 4 ≡ false → s.place.x ≤ 4095 →
    char_clocks ram size font n s ≡ built n (texts (span_codes ram size span) n s.text) (cells_set font ram size span s n) s
cells_row ram size font span m zero s h few shown teletext off small = sym (none_built s small)
cells_row ram size font span m (suc n) s h few shown teletext off small =
    let d = dots_of s.ula.control in
    let codes = span_codes ram size span in
    let strip = cells font codes span.ra span.fields s.text in
    let text = texts codes n s.text in
    let working = cells_set font ram size span s n in
    let sixteen : 16 ≡ d = sym (sixteen_dots s.ula off) in
    let long : length (side_by_side strip n) ≡ n * d =
    row_long strip 16 n (λ k. cell_long font (codes k) span.ra span.fields (texts codes k s.text)) ∙ ap (λ k. n * k) sixteen in
    chars_behind ram size font n s
    ∙ ap (λ (t : State). char_clock_leaves ram size font t) (cells_row ram size font span m n s h (omega (arith, few)) shown teletext off small)
    ∙ shown_here ram size font span m s n text working h shown (omega (arith, few))
    ∙ ap (λ (t : State). pass_leaves (plain_beam span n) t)
    (draws_cell ram size font span n (record (built n text working s) { crtc = clocks (suc n) s.crtc }) shown teletext off h.far)
    ∙ passed span n (texts codes (suc n) s.text) (dots_set 208 (min (s.place.x + n * d) 4095) s.place.y (strip n) working) s h.far
    ∙ ap (λ (w : List ℕ). built (suc n) (texts codes (suc n) s.text) w s)
    (beside 208 s.place.x s.place.y (n * d) (side_by_side strip n) (strip n) s.working (omega arith) long)

-- equal codes lead to equal states
same_texts : (f g : ℕ → ℕ) (n : ℕ) (t : Text) → ((k : ℕ) → k < n → f k ≡ g k) → texts f n t ≡ texts g n t
same_texts f g zero t h = refl
same_texts f g (suc n) t h =
    ap (λ (u : Text). text_after (f n) u) (same_texts f g n t (λ k below. h k (omega (arith, below)))) ∙ ap (λ c. text_after c (texts g n t)) (h n (omega arith))

same_cells : (font : Font) (f g : ℕ → ℕ) (ra fields n : ℕ) (t : Text) → ((k : ℕ) → k < n → f k ≡ g k) →
    side_by_side (cells font f ra fields t) n ≡ side_by_side (cells font g ra fields t) n
same_cells font f g ra fields n t h =
    same_row (cells font f ra fields t) (cells font g ra fields t) n (λ k below.
    ap (λ (u : Text). cell_on font (f k) ra fields u) (same_texts f g k t (λ j lower. h j (omega (arith, lower, below))))
    ∙ ap (λ c. cell_on font c ra fields (texts g k t)) (h k below))

pub cells_drawn : (ram : List ℕ) (size : ℕ) (font : Font) (span : Span) (n at step : ℕ) (s : State) (text : Text) (new : List ℕ) → ArePlain span n s → span.shown ≡ true →
    bit s.ula.control 1 ≡ true → bit s.ula.control 4 ≡ false → s.place.x ≤ 4095 → AreApart span.ma span.ra size n at step →
    text ≡ texts (code_in (drop at ram) step) n s.text →
    new ≡ dots_set 208 s.place.x s.place.y (side_by_side (cells font (code_in (drop at ram) step) span.ra span.fields s.text) n) s.working →
    record s { text = text; working = new } ≡ drawn_ahead ram size font n s
cells_drawn ram size font span n at step s text new h shown teletext off small apart left is =
    let codes = span_codes ram size span in
    let same : (k : ℕ) → k < n → code_in (drop at ram) step k ≡ codes k =
    λ k below. ap (λ byte. byte % 128) (get_or-drop at ram (k * step) 0 ∙ ap (λ j. slice_index ram j) (sym (apart.stand k below))) in
    ap (λ (t : Text). record s { text = t; working = new }) (left ∙ same_texts (code_in (drop at ram) step) codes n s.text same)
    ∙ ap (λ (w : List ℕ). record s { text = texts codes n s.text; working = w })
    (is ∙ ap (λ (row : List ℕ). dots_set 208 s.place.x s.place.y row s.working) (same_cells font (code_in (drop at ram) step) codes span.ra span.fields n s.text same))
    ∙ ap (λ (t : State). record t { crtc = s.crtc; place = s.place }) (sym (cells_row ram size font span n n s h (omega arith) shown teletext off small))
