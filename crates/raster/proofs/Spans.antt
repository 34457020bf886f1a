-- Several characters of a span at once.
use Rattle.std.proofs.Common.{◌≡◌, ◌∙◌, sym, ap, refl, ℕ, zero, suc, ◌+◌, ◌-◌, ◌*◌, ◌%◌, ◌<◌, ◌≤◌, ◌++◌, ◌==◌, Bool, true, false, min}
use Rattle.std.proofs.Common.{List, length, length-append, drop, replicate, arith, inl, inr}
use Rattle.std.specs.Prelude.{slice_index, if◌then◌else◌}
use Rattle.std.proofs.lemmas.Bool.{cases_lt}
use Rattle.std.proofs.lemmas.Bool.Decides.{nat_tests}
use Rattle.std.proofs.lemmas.List.{length-replicate, get_or-drop, replicate-append-replicate}
use Rattle.beeb_bits.specs.Bits.{bit}
use Rattle.crtc6845.specs.declared.Beam.{Beam}
use Rattle.crtc6845.specs.declared.Span.{Span}
use Rattle.crtc6845.specs.State.{State as CrtcState}
use Rattle.crtc6845.specs.Clock.{beam_of, clock_leaves}
use Rattle.crtc6845.specs.Laws.{clocks}
use Rattle.crtc6845.specs.Spans.{beam_in_span}
use Rattle.video_ula.specs.State.{State as UlaState}
use Rattle.video_ula.specs.Pixels.{dots_of, colours, side_by_side, row_colours}
use Rattle.saa5050.specs.Shapes.{Font}
use Rattle.raster.specs.Beam.{Place, Cursor, byte_address, cursor_past, place_past, is_marked}
use Rattle.raster.specs.Frame.{dots_set, is_in_frame}
use Rattle.raster.specs.Text.{Text}
use Rattle.raster.specs.State.{State, first_cursor}
use Rattle.raster.specs.Clock.{byte_dots, draw_byte_leaves, draw_cell_leaves, draw_leaves, show_leaves, pass_leaves, tell_leaves, char_clock_leaves}
use Rattle.raster.specs.CodeSteps.{char_clocks, drawn_ahead, ArePlain, AreApart, byte_row, bytes_put, place_in_span}
use Rattle.raster.proofs.Drawing.{dots_set-append, past_the_end, all_outside}
use Rattle.raster.proofs.Quiet.{cursor_far}
use Rattle.raster.proofs.Micros.{clocks_behind, chars_behind, chars_crtc, chars_ula, show_place, show_cursor, show_ula}

-- a character of a plain span
unfoldable pub plain_beam : Span → ℕ → Beam
plain_beam span k = record {
  shown = span.shown;
  ma = (span.ma + k) % 16384;
  ra = span.ra;
  cursor = false;
  line_start = false;
  sync_start = false;
  frame_end = false;
  fields = span.fields;
  row_end = false;
  restart = false;
}

early : (k to n : ℕ) → k < n → n ≤ to → (k == to) ≡ false
early k to n below h = grind (arith, nat_tests)

told_plain : (span : Span) (n : ℕ) (s : State) (k : ℕ) → ArePlain span n s → span.shown ≡ true → k < n → beam_of (clocks k s.crtc) ≡ plain_beam span k
unfolding plain_beam
told_plain span n s k h shown below = h.told k below ∙ rw (early k span.to_sync n below (h.sync shown), h.cursor) refl

-- n characters further, with this text and this frame
abbrev pub built : ℕ → Text → List ℕ → State → State
built k text working s = record s {
  crtc = clocks k s.crtc;
  place = place_past (k * dots_of s.ula.control) s.place;
  text = text;
  working = working;
}

pub shown_here : (ram : List ℕ) (size : ℕ) (font : Font) (span : Span) (n : ℕ) (s : State) (k : ℕ) (text : Text) (working : List ℕ)
    → ArePlain span n s → span.shown ≡ true → k < n →
    char_clock_leaves ram size font (built k text working s)
    ≡ pass_leaves (plain_beam span k) (show_leaves ram size font (plain_beam span k) (record (built k text working s) { crtc = clocks (suc k) s.crtc }))
unfolding char_clock_leaves plain_beam
shown_here ram size font span n s k text working h shown below =
    let here = built k text working s in
    ap (λ (b : Beam). tell_leaves ram size font b (record here { crtc = clock_leaves (clocks k s.crtc) })) (told_plain span n s k h shown below)
    ∙ ap (λ (c : CrtcState). tell_leaves ram size font (plain_beam span k) (record here { crtc = c })) (sym (clocks_behind k s.crtc))

pub further : (a b c : ℕ) (p : Place) → a + b ≡ c → place_past b (place_past a p) ≡ place_past c p
further a b c p e = ap (λ (x : ℕ). record p { x = x }) (omega (arith, e))

-- the beam passes a character without the cursor
pub passes : (beam : Beam) (t : State) (working : List ℕ) → beam.cursor ≡ false → beam.row_end ≡ false → beam.restart ≡ false → t.cursor ≡ first_cursor →
    pass_leaves beam (record t { working = working }) ≡ record t { place = place_past (dots_of t.ula.control) t.place; working = working }
passes beam t working cursor row frame far = rw (cursor, row, frame, far) refl

pub passed : (span : Span) (k : ℕ) (text : Text) (working : List ℕ) (s : State) → s.cursor ≡ first_cursor →
    pass_leaves (plain_beam span k) (record (built k text working s) { crtc = clocks (suc k) s.crtc }) ≡ built (suc k) text working s
unfolding plain_beam
passed span k text working s far =
    let d = dots_of s.ula.control in
    passes (plain_beam span k) (record (built k text working s) { crtc = clocks (suc k) s.crtc }) working refl refl refl far
    ∙ ap (λ (p : Place). record (built (suc k) text working s) { place = p }) (further (k * d) d (suc k * d) s.place (grind arith))

pub none_built : (s : State) → s.place.x ≤ 4095 → built 0 s.text s.working s ≡ s
none_built s small =
    let z : min (s.place.x + 0 * dots_of s.ula.control) 4095 ≡ s.place.x = omega (arith, small) in
    ap (λ (x : ℕ). record s { place = record s.place { x = x } }) z

pub fewer : (span : Span) (n m : ℕ) (s : State) → n ≤ m → ArePlain span m s → ArePlain span n s
fewer span n m s few h = record {
  told = λ k below. h.told k (omega (arith, below, few));
  cursor = h.cursor;
  sync = λ shown. let all = h.sync shown in omega (arith, all, few);
  far = h.far;
}

-- characters that are not shown: the beam's place before horizontal sync, and from it on
abbrev place_next : Bool → ℕ → Place → Place
place_next sync d p = place_past d (record { x = if sync then 0 else p.x; y = p.y })

place_more : (to n d : ℕ) (p : Place) → place_next (n == to) d (place_in_span to n d p) ≡ place_in_span to (suc n) d p
place_more to n d p =
    let z : n * d + d ≡ suc n * d = grind arith in
    let y : n - to + 1 ≡ suc n - to → (n - to) * d + d ≡ (suc n - to) * d = λ e. rw (← e) (grind arith) in
    grind (arith, nat_tests)

before_sync : (to n d : ℕ) (p : Place) → n ≤ to → place_in_span to n d p ≡ place_past (n * d) p
before_sync to n d p h = grind (arith, nat_tests)

abbrev hidden_beam : Span → ℕ → Beam
hidden_beam span k = record {
  shown = false;
  ma = (span.ma + k) % 16384;
  ra = span.ra;
  cursor = false;
  line_start = false;
  sync_start = k == span.to_sync;
  frame_end = false;
  fields = span.fields;
  row_end = false;
  restart = false;
}

hidden_told : (span : Span) (k : ℕ) → span.shown ≡ false → span.cursor ≡ false → beam_in_span span k ≡ hidden_beam span k
hidden_told span k hidden cursor = rw (hidden, cursor) refl

hidden_clock : (ram : List ℕ) (size : ℕ) (font : Font) (span : Span) (k : ℕ) (t : State) → beam_of t.crtc ≡ hidden_beam span k →
    char_clock_leaves ram size font t
    ≡ record t { crtc = clock_leaves t.crtc; place = place_next (k == span.to_sync) (dots_of t.ula.control) t.place; cursor = cursor_past false t.cursor }
unfolding char_clock_leaves
hidden_clock ram size font span k t told = ap (λ (b : Beam). tell_leaves ram size font b (record t { crtc = clock_leaves t.crtc })) told

pub hidden_row : (ram : List ℕ) (size : ℕ) (font : Font) (span : Span) (m n : ℕ) (s : State) → ArePlain span m s → n ≤ m → span.shown ≡ false → s.place.x ≤ 4095 →
    char_clocks ram size font n s ≡ record s { crtc = clocks n s.crtc; place = place_in_span span.to_sync n (dots_of s.ula.control) s.place }
hidden_row ram size font span m zero s h few hidden small =
    let z : min (s.place.x + 0 * dots_of s.ula.control) 4095 ≡ s.place.x = omega (arith, small) in
    sym (ap (λ (p : Place). record s { place = p }) (before_sync span.to_sync 0 (dots_of s.ula.control) s.place (omega arith) ∙ ap (λ (x : ℕ). record s.place { x = x }) z))
hidden_row ram size font span m (suc n) s h few hidden small =
    let d = dots_of s.ula.control in
    let to = span.to_sync in
    let here : State = record s { crtc = clocks n s.crtc; place = place_in_span to n d s.place } in
    let next = λ (c : CrtcState) (p : Place) (cursor : Cursor). record s { crtc = c; place = p; cursor = cursor } in
    chars_behind ram size font n s
    ∙ ap (λ (t : State). char_clock_leaves ram size font t) (hidden_row ram size font span m n s h (omega (arith, few)) hidden small)
    ∙ hidden_clock ram size font span n here (h.told n (omega (arith, few)) ∙ hidden_told span n hidden h.cursor)
    ∙ ap (λ (c : CrtcState). next c (place_next (n == to) d (place_in_span to n d s.place)) (cursor_past false s.cursor)) (sym (clocks_behind n s.crtc))
    ∙ ap (λ (p : Place). next (clocks (suc n) s.crtc) p (cursor_past false s.cursor)) (place_more to n d s.place)
    ∙ ap (λ (c : Cursor). next (clocks (suc n) s.crtc) (place_in_span to (suc n) d s.place) c) (sym (cursor_far s.cursor h.far))

pub hidden_drawn : (ram : List ℕ) (size : ℕ) (font : Font) (span : Span) (n : ℕ) (s : State) → ArePlain span n s → span.shown ≡ false → s.place.x ≤ 4095 →
    s ≡ drawn_ahead ram size font n s
hidden_drawn ram size font span n s h hidden small =
    ap (λ (t : State). record t { crtc = s.crtc; place = s.place }) (sym (hidden_row ram size font span n n s h (omega arith) hidden small))

-- characters that are shown, without teletext
abbrev pub span_dots : List ℕ → ℕ → Span → State → ℕ → List ℕ
span_dots ram size span s k = byte_dots s.ula (slice_index ram (byte_address ((span.ma + k) % 16384) span.ra size)) span.ra false

colours_long : (u : UlaState) (byte : ℕ) (marked : Bool) → length (colours u byte marked) ≡ dots_of u.control
colours_long u byte marked = grind arith

pub dots_long : (u : UlaState) (byte ra : ℕ) (marked : Bool) → length (byte_dots u byte ra marked) ≡ dots_of u.control
dots_long u byte ra marked = grind (arith, length-replicate {A = ℕ}, colours_long)

one_longer : (n d : ℕ) (xs ys : List ℕ) → length xs ≡ n * d → length ys ≡ d → length (xs ++ ys) ≡ suc n * d
one_longer n d xs ys p q = length-append xs ys ∙ ap (λ k. k + length ys) p ∙ ap (λ k. n * d + k) q ∙ grind arith

pub row_long : (f : ℕ → List ℕ) (d n : ℕ) → ((k : ℕ) → length (f k) ≡ d) → length (side_by_side f n) ≡ n * d
row_long f d zero all = omega arith
row_long f d (suc n) all = one_longer n d (side_by_side f n) (f n) (row_long f d n all) (all n)

pub not_marked : (control : ℕ) (c : Cursor) → c ≡ first_cursor → bit control 1 ≡ false → is_marked control false c ≡ false
not_marked control c far bits = grind arith

-- a character's dots are set beside the others, also if the beam's place is at its largest
capped_dots : (left y a : ℕ) (dots frame : List ℕ) → left ≤ 240 → dots_set left (min a 4095) y dots frame ≡ dots_set left a y dots frame
capped_dots left y a dots frame l =
    elim (cases_lt a 4095) [
      | inl below ↦ let e : min a 4095 ≡ a = omega arith in rw e refl
      | inr end ↦ past_the_end left (min a 4095) y dots frame (omega arith) ∙ sym (past_the_end left a y dots frame (omega arith))
    ]

pub beside : (left x y at : ℕ) (row dots frame : List ℕ) → left ≤ 240 → length row ≡ at →
    dots_set left (min (x + at) 4095) y dots (dots_set left x y row frame) ≡ dots_set left x y (row ++ dots) frame
beside left x y at row dots frame l long =
    capped_dots left y (x + at) dots (dots_set left x y row frame) l ∙ ap (λ k. dots_set left (x + k) y dots (dots_set left x y row frame)) (sym long)
    ∙ sym (dots_set-append left x y row dots frame)

pub pick_first : (b : Bool) (x y : State) → b ≡ true → (if b then x else y) ≡ x
pick_first b x y is = rw is refl

pub pick_second : (b : Bool) (x y : State) → b ≡ false → (if b then x else y) ≡ y
pick_second b x y is = rw is refl

pub draws : (ram : List ℕ) (size : ℕ) (font : Font) (beam : Beam) (t : State) → beam.shown ≡ true → beam.cursor ≡ false → bit t.ula.control 1 ≡ false → t.cursor ≡ first_cursor →
    show_leaves ram size font beam t
    ≡ record t { working = dots_set 240 t.place.x t.place.y (byte_dots t.ula (slice_index ram (byte_address beam.ma beam.ra size)) beam.ra false) t.working }
draws ram size font beam t shown cursor bits far =
    let byte = slice_index ram (byte_address beam.ma beam.ra size) in
    let marked : is_marked t.ula.control beam.cursor t.cursor ≡ false =
    ap (λ (here : Bool). is_marked t.ula.control here t.cursor) cursor ∙ not_marked t.ula.control t.cursor far bits in
    pick_first beam.shown (draw_leaves ram size font beam t) t shown
    ∙ pick_second (bit t.ula.control 1) (draw_cell_leaves font beam (byte % 128) t) (draw_byte_leaves beam byte t) bits
    ∙ ap (λ (m : Bool). record t { working = dots_set 240 t.place.x t.place.y (byte_dots t.ula byte beam.ra m) t.working }) marked

plain_draws : (ram : List ℕ) (size : ℕ) (font : Font) (span : Span) (k : ℕ) (t : State) → span.shown ≡ true → bit t.ula.control 1 ≡ false → t.cursor ≡ first_cursor →
    show_leaves ram size font (plain_beam span k) t ≡ record t { working = dots_set 240 t.place.x t.place.y (span_dots ram size span t k) t.working }
unfolding plain_beam
plain_draws ram size font span k t shown bits far = draws ram size font (plain_beam span k) t shown refl bits far

abbrev pub row_set : List ℕ → ℕ → Span → State → ℕ → List ℕ
row_set ram size span s n = dots_set 240 s.place.x s.place.y (side_by_side (span_dots ram size span s) n) s.working

pub shown_row : (ram : List ℕ) (size : ℕ) (font : Font) (span : Span) (m n : ℕ) (s : State) → ArePlain span m s → n ≤ m → span.shown ≡ true → bit s.ula.control 1 ≡ false →
    s.place.x ≤ 4095 → char_clocks ram size font n s ≡ built n s.text (row_set ram size span s n) s
shown_row ram size font span m zero s h few shown bits small = sym (none_built s small)
shown_row ram size font span m (suc n) s h few shown bits small =
    let d = dots_of s.ula.control in
    let dots = span_dots ram size span s in
    let long : length (side_by_side dots n) ≡ n * d = row_long dots d n (λ k. dots_long s.ula (slice_index ram (byte_address ((span.ma + k) % 16384) span.ra size)) span.ra false) in
    chars_behind ram size font n s
    ∙ ap (λ (t : State). char_clock_leaves ram size font t) (shown_row ram size font span m n s h (omega (arith, few)) shown bits small)
    ∙ shown_here ram size font span m s n s.text (row_set ram size span s n) h shown (omega (arith, few))
    ∙ ap (λ (t : State). pass_leaves (plain_beam span n) t)
    (plain_draws ram size font span n (record (built n s.text (row_set ram size span s n) s) { crtc = clocks (suc n) s.crtc }) shown bits h.far)
    ∙ passed span n s.text (dots_set 240 (min (s.place.x + n * d) 4095) s.place.y (dots n) (row_set ram size span s n)) s h.far
    ∙ ap (λ (w : List ℕ). built (suc n) s.text w s) (beside 240 s.place.x s.place.y (n * d) (side_by_side dots n) (dots n) s.working (omega arith) long)

pub shown_drawn : (ram : List ℕ) (size : ℕ) (font : Font) (span : Span) (n : ℕ) (s : State) → ArePlain span n s → span.shown ≡ true
    → bit s.ula.control 1 ≡ false → s.place.x ≤ 4095 →
    record s { working = row_set ram size span s n } ≡ drawn_ahead ram size font n s
shown_drawn ram size font span n s h shown bits small =
    ap (λ (t : State). record t { crtc = s.crtc; place = s.place }) (sym (shown_row ram size font span n n s h (omega arith) shown bits small))

-- The beam's place does not depend on what is drawn.
record IsAhead (n : ℕ) (s t : State) : Type 0 where
  place : t.place ≡ place_past (n * dots_of s.ula.control) s.place
  cursor : t.cursor ≡ s.cursor

char_ahead : (ram : List ℕ) (size : ℕ) (font : Font) (span : Span) (k : ℕ) (t : State) → beam_of t.crtc ≡ plain_beam span k → t.cursor ≡ first_cursor →
    IsAhead 1 t (char_clock_leaves ram size font t)
unfolding char_clock_leaves plain_beam
char_ahead ram size font span k t told far =
    let beam = plain_beam span k in
    let d : State = record t { crtc = clock_leaves t.crtc } in
    let z : dots_of t.ula.control ≡ 1 * dots_of t.ula.control = omega arith in
    record {
      place = ap (λ (b : Beam). (tell_leaves ram size font b d).place) told
          ∙ ap (λ (u : UlaState). place_past (dots_of u.control) (show_leaves ram size font beam d).place) (show_ula ram size font beam d)
          ∙ ap (λ (p : Place). place_past (dots_of t.ula.control) p) (show_place ram size font beam d) ∙ ap (λ k. place_past k t.place) z;
      cursor = ap (λ (b : Beam). (tell_leaves ram size font b d).cursor) told ∙ ap (λ (c : Cursor). cursor_past false c) (show_cursor ram size font beam d)
          ∙ sym (cursor_far t.cursor far);
    }

goes_ahead : (ram : List ℕ) (size : ℕ) (font : Font) (span : Span) (m n : ℕ) (s : State) → ArePlain span m s → n ≤ m → span.shown ≡ true → s.place.x ≤ 4095 →
    IsAhead n s (char_clocks ram size font n s)
goes_ahead ram size font span m zero s h few shown small = record {
  place = let z : s.place.x ≡ min (s.place.x + 0 * dots_of s.ula.control) 4095 = omega (arith, small) in ap (λ (x : ℕ). record s.place { x = x }) z;
  cursor = refl;
}
goes_ahead ram size font span m (suc n) s h few shown small =
    let t = char_clocks ram size font n s in
    let d = dots_of s.ula.control in
    let i = goes_ahead ram size font span m n s h (omega (arith, few)) shown small in
    let behind = chars_behind ram size font n s in
    let told : beam_of t.crtc ≡ plain_beam span n =
    ap (λ (c : CrtcState). beam_of c) (chars_crtc ram size font n s) ∙ told_plain span m s n h shown (omega (arith, few)) in
    let one = char_ahead ram size font span n t told (i.cursor ∙ h.far) in
    record {
      place = ap (λ (x : State). x.place) behind ∙ one.place ∙ ap (λ (u : UlaState). place_past (1 * dots_of u.control) t.place) (chars_ula ram size font n s)
          ∙ ap (λ (p : Place). place_past (1 * d) p) i.place ∙ further (n * d) (1 * d) (suc n * d) s.place (grind arith);
      cursor = ap (λ (x : State). x.cursor) behind ∙ one.cursor ∙ i.cursor;
    }

-- after the 6845 and the beam's place catch up, the state is that of all clocks
abbrev come : ℕ → ℕ → State → State
come to n t = record t { crtc = clocks n t.crtc; place = place_in_span to n (dots_of t.ula.control) t.place }

caught_up_by : (shown : Bool) (ram : List ℕ) (size : ℕ) (font : Font) (span : Span) (n : ℕ) (s : State) → span.shown ≡ shown → ArePlain span n s → s.place.x ≤ 4095 →
    come span.to_sync n (drawn_ahead ram size font n s) ≡ char_clocks ram size font n s
caught_up_by true ram size font span n s shown h small =
    let all = char_clocks ram size font n s in
    let i = goes_ahead ram size font span n n s h (omega arith) shown small in
    let place = place_past (n * dots_of s.ula.control) s.place in
    ap (λ (w : UlaState). record all { crtc = clocks n s.crtc; place = place_in_span span.to_sync n (dots_of w.control) s.place }) (chars_ula ram size font n s)
    ∙ ap (λ (p : Place). record all { crtc = clocks n s.crtc; place = p }) (before_sync span.to_sync n (dots_of s.ula.control) s.place (h.sync shown))
    ∙ ap (λ (c : CrtcState). record all { crtc = c; place = place }) (sym (chars_crtc ram size font n s))
    ∙ ap (λ (p : Place). record all { place = p }) (sym i.place)
caught_up_by false ram size font span n s hidden h small =
    ap (λ (t : State). come span.to_sync n t) (sym (hidden_drawn ram size font span n s h hidden small))
    ∙ sym (hidden_row ram size font span n n s h (omega arith) hidden small)

pub caught_up : (ram : List ℕ) (size : ℕ) (font : Font) (span : Span) (n : ℕ) (s t u : State) → ArePlain span n s → s.place.x ≤ 4095 →
    t ≡ drawn_ahead ram size font n s → u ≡ record t { crtc = clocks n t.crtc; place = place_in_span span.to_sync n (dots_of t.ula.control) t.place } →
    u ≡ char_clocks ram size font n s
caught_up ram size font span n s t u h small drawn is =
    is ∙ ap (λ (t : State). come span.to_sync n t) drawn ∙ caught_up_by span.shown ram size font span n s refl h small

-- ---- by the bytes of the RAM

pub row_colours_long : (u : UlaState) (bytes : List ℕ) (step n : ℕ) → length (row_colours u bytes step n) ≡ n * dots_of u.control
row_colours_long u bytes step n =
    row_long (λ k. colours u (slice_index bytes (k * step)) false) (dots_of u.control) n
    (λ k. colours_long u (slice_index bytes (k * step)) false)

pub same_row : (f g : ℕ → List ℕ) (n : ℕ) → ((k : ℕ) → k < n → f k ≡ g k) → side_by_side f n ≡ side_by_side g n
same_row f g zero h = refl
same_row f g (suc n) h =
    ap (λ (ds : List ℕ). ds ++ f n) (same_row f g n (λ k below. h k (omega (arith, below)))) ∙ ap (λ (ds : List ℕ). side_by_side g n ++ ds) (h n (omega arith))

pub plain_dots : (u : UlaState) (byte ra : ℕ) → bit ra 3 ≡ false → colours u byte false ≡ byte_dots u byte ra false
plain_dots u byte ra low = rw low refl

pub bytes_are : (ram : List ℕ) (size ma ra n at step : ℕ) (u : UlaState) → AreApart ma ra size n at step → row_colours u (drop at ram) step n ≡ byte_row ram size ma ra u n
bytes_are ram size ma ra n at step u apart =
    same_row _ _ n (λ k below.
    ap (λ byte. colours u byte false) (get_or-drop at ram (k * step) 0 ∙ ap (λ j. slice_index ram j) (sym (apart.stand k below))))

pub bytes_drawn : (ram : List ℕ) (size : ℕ) (font : Font) (span : Span) (n : ℕ) (s : State) → ArePlain span n s → span.shown ≡ true → bit s.ula.control 1 ≡ false →
    s.place.x ≤ 4095 → bit span.ra 3 ≡ false → bytes_put ram size span.ma span.ra n s ≡ drawn_ahead ram size font n s
bytes_drawn ram size font span n s h shown bits small low =
    let byte = λ (k : ℕ). slice_index ram (byte_address ((span.ma + k) % 16384) span.ra size) in
    ap (λ (row : List ℕ). record s { working = dots_set 240 s.place.x s.place.y row s.working })
    (same_row (λ k. colours s.ula (byte k) false) (span_dots ram size span s) n (λ k below. plain_dots s.ula (byte k) span.ra low))
    ∙ shown_drawn ram size font span n s h shown bits small

-- ---- black rasters, and outside of the frame

black_dots : (u : UlaState) (byte ra : ℕ) → bit ra 3 ≡ true → byte_dots u byte ra false ≡ replicate (dots_of u.control) 0
black_dots u byte ra high = rw high refl

black_row : (d n : ℕ) → side_by_side (λ k. replicate d 0) n ≡ replicate (n * d) 0
black_row d zero = let z : 0 * d ≡ 0 = omega arith in ap (λ k. replicate k 0) (sym z)
black_row d (suc n) =
    let z : n * d + d ≡ suc n * d = grind arith in
    ap (λ (ds : List ℕ). ds ++ replicate d 0) (black_row d n) ∙ replicate-append-replicate (n * d) d 0 ∙ ap (λ k. replicate k 0) z

pub black_drawn : (ram : List ℕ) (size : ℕ) (font : Font) (span : Span) (n : ℕ) (s : State) (new : List ℕ) → ArePlain span n s → span.shown ≡ true →
    bit s.ula.control 1 ≡ false → s.place.x ≤ 4095 → bit span.ra 3 ≡ true →
    new ≡ dots_set 240 s.place.x s.place.y (replicate (n * dots_of s.ula.control) 0) s.working → record s { working = new } ≡ drawn_ahead ram size font n s
black_drawn ram size font span n s new h shown bits small high is =
    let row : replicate (n * dots_of s.ula.control) 0 ≡ side_by_side (span_dots ram size span s) n =
    sym (black_row (dots_of s.ula.control) n)
    ∙ sym (same_row (span_dots ram size span s) (λ k. replicate (dots_of s.ula.control) 0) n
    (λ k below. black_dots s.ula (slice_index ram (byte_address ((span.ma + k) % 16384) span.ra size)) span.ra high)) in
    ap (λ (w : List ℕ). record s { working = w }) (is ∙ ap (λ (row : List ℕ). dots_set 240 s.place.x s.place.y row s.working) row)
    ∙ shown_drawn ram size font span n s h shown bits small

pub outside_drawn : (ram : List ℕ) (size : ℕ) (font : Font) (span : Span) (n : ℕ) (s : State) → ArePlain span n s → span.shown ≡ true →
    bit s.ula.control 1 ≡ false → s.place.x ≤ 4095 → ((k : ℕ) → k < n * dots_of s.ula.control → is_in_frame 240 (s.place.x + k) s.place.y ≡ false) →
    s ≡ drawn_ahead ram size font n s
outside_drawn ram size font span n s h shown bits small out =
    let dots = span_dots ram size span s in
    let long : length (side_by_side dots n) ≡ n * dots_of s.ula.control =
    row_long dots (dots_of s.ula.control) n (λ k. dots_long s.ula (slice_index ram (byte_address ((span.ma + k) % 16384) span.ra size)) span.ra false) in
    ap (λ (w : List ℕ). record s { working = w })
    (sym (all_outside 240 s.place.x s.place.y (side_by_side dots n) s.working (λ k below. out k (omega (arith, below, long)))))
    ∙ shown_drawn ram size font span n s h shown bits small
