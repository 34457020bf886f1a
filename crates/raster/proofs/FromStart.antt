-- Characters that are shown from the first of a line on.
use Rattle.std.proofs.Common.{◌≡◌, ◌∙◌, sym, ap, refl, ℕ, zero, suc, ◌+◌, ◌-◌, ◌*◌, ◌%◌, ◌<◌, ◌++◌, false, List, length, append_assoc, append-nil, arith}
use Rattle.std.specs.Prelude.{slice_index}
use Rattle.beeb_bits.specs.Bits.{bit}
use Rattle.crtc6845.specs.declared.Beam.{Beam}
use Rattle.crtc6845.specs.declared.Span.{Span}
use Rattle.crtc6845.specs.State.{State as CrtcState}
use Rattle.crtc6845.specs.Clock.{start_leaves, address, ends_line, ends_row, ends_frame, beam_of, clock_leaves}
use Rattle.crtc6845.specs.Laws.{clocks}
use Rattle.video_ula.specs.State.{State as UlaState}
use Rattle.video_ula.specs.Pixels.{dots_of, colours, side_by_side}
use Rattle.saa5050.specs.Shapes.{Font}
use Rattle.raster.specs.Beam.{Place, byte_address, place_past}
use Rattle.raster.specs.Frame.{dots_set}
use Rattle.raster.specs.State.{State}
use Rattle.raster.specs.Clock.{begin_leaves, byte_dots, show_leaves, pass_leaves, tell_leaves}
use Rattle.raster.specs.CodeSteps.{char_clocks, ArePlain, AreBehind, byte_row, bytes_put}
use Rattle.raster.proofs.Told.{told_after}
use Rattle.raster.proofs.Spans.{further, passes, draws, span_dots, row_set, dots_long, beside, same_row, plain_dots, shown_row}

-- the dots of a first character, and of those beside it
pub row_from_first : (f : ℕ → List ℕ) (n : ℕ) → f 0 ++ side_by_side (λ k. f (suc k)) n ≡ side_by_side f (suc n)
row_from_first f zero = append-nil (f 0)
row_from_first f (suc n) =
    sym (append_assoc (f 0) (side_by_side (λ k. f (suc k)) n) (f (suc n))) ∙ ap (λ (ds : List ℕ). ds ++ f (suc n)) (row_from_first f n)

-- the dots of a character of the line
first_dots : List ℕ → ℕ → Beam → UlaState → ℕ → List ℕ
first_dots ram size first u k = byte_dots u (slice_index ram (byte_address ((first.ma + k) % 16384) first.ra size)) first.ra false

dots_behind : (ram : List ℕ) (size : ℕ) (span : Span) (first : Beam) (t : State) (k : ℕ) → span.ma ≡ first.ma + 1 → span.ra ≡ first.ra →
    span_dots ram size span t k ≡ first_dots ram size first t.ula (suc k)
unfolding first_dots
dots_behind ram size span first t k ma ra =
    let z : span.ma + k ≡ first.ma + suc k = omega (arith, ma) in
    ap (λ r. byte_dots t.ula (slice_index ram (byte_address ((span.ma + k) % 16384) r size)) r false) ra
    ∙ ap (λ m. byte_dots t.ula (slice_index ram (byte_address (m % 16384) first.ra size)) first.ra false) z

dots_at_first : (ram : List ℕ) (size : ℕ) (first : Beam) (u : UlaState) → first.ma < 16384 →
    byte_dots u (slice_index ram (byte_address first.ma first.ra size)) first.ra false ≡ first_dots ram size first u 0
unfolding first_dots
dots_at_first ram size first u small =
    let z : first.ma ≡ (first.ma + 0) % 16384 = omega (arith, small) in
    ap (λ m. byte_dots u (slice_index ram (byte_address m first.ra size)) first.ra false) z

first_long : (ram : List ℕ) (size : ℕ) (first : Beam) (u : UlaState) → length (first_dots ram size first u 0) ≡ dots_of u.control
unfolding first_dots
first_long ram size first u = dots_long u (slice_index ram (byte_address ((first.ma + 0) % 16384) first.ra size)) first.ra false

row_by_bytes : (ram : List ℕ) (size : ℕ) (first : Beam) (u : UlaState) (n : ℕ) → bit first.ra 3 ≡ false →
    side_by_side (first_dots ram size first u) n ≡ byte_row ram size first.ma first.ra u n
unfolding first_dots
row_by_bytes ram size first u n low =
    same_row (first_dots ram size first u) (λ k. colours u (slice_index ram (byte_address ((first.ma + k) % 16384) first.ra size)) false) n
    (λ k below. sym (plain_dots u (slice_index ram (byte_address ((first.ma + k) % 16384) first.ra size)) first.ra low))

-- The state after the clocks that follow the first, for any beam of the first.
pub row_behind : (ram : List ℕ) (size : ℕ) (font : Font) (first : Beam) (n : ℕ) (t : State) → AreBehind first n t → first.ma < 16384
    → first.row_end ≡ false → first.restart ≡ false →
    char_clocks ram size font n (pass_leaves first (show_leaves ram size font first t))
    ≡ record t {
      crtc = clocks n t.crtc;
      place = place_past (suc n * dots_of t.ula.control) t.place;
      working = dots_set 240 t.place.x t.place.y (byte_row ram size first.ma first.ra t.ula (suc n)) t.working;
    }
row_behind ram size font first n t h small row frame =
    let d = dots_of t.ula.control in
    let f = first_dots ram size first t.ula in
    let x = t.place.x in
    let y = t.place.y in
    let working = dots_set 240 x y (f 0) t.working in
    let one : State = record t { place = place_past d t.place; working = working } in
    let passed : pass_leaves first (show_leaves ram size font first t) ≡ one =
    ap (λ (s : State). pass_leaves first s) (draws ram size font first t h.first_shown h.first_cursor h.bits h.plain.far)
    ∙ ap (λ (ds : List ℕ). pass_leaves first (record t { working = dots_set 240 x y ds t.working })) (dots_at_first ram size first t.ula small)
    ∙ passes first t working h.first_cursor row frame h.plain.far in
    let plain : ArePlain h.span n one = record { told = h.plain.told; cursor = h.plain.cursor; sync = h.plain.sync; far = h.plain.far } in
    let dots = side_by_side (span_dots ram size h.span one) n in
    let drawn : row_set ram size h.span one n ≡ dots_set 240 x y (byte_row ram size first.ma first.ra t.ula (suc n)) t.working =
    beside 240 x y d (f 0) dots t.working (omega arith) (first_long ram size first t.ula)
    ∙ ap (λ (ds : List ℕ). dots_set 240 x y (f 0 ++ ds) t.working)
    (same_row (span_dots ram size h.span one) (λ k. f (suc k)) n (λ k below. dots_behind ram size h.span first one k h.ma h.ra))
    ∙ ap (λ (ds : List ℕ). dots_set 240 x y ds t.working) (row_from_first f n ∙ row_by_bytes ram size first t.ula (suc n) h.dots) in
    let left = λ (p : Place) (w : List ℕ). record t { crtc = clocks n t.crtc; place = p; working = w } in
    ap (λ (s : State). char_clocks ram size font n s) passed
    ∙ shown_row ram size font h.span n n one plain (omega arith) h.shown h.bits (omega arith)
    ∙ ap (λ (w : List ℕ). left (place_past (n * d) (place_past d t.place)) w) drawn
    ∙ ap (λ (p : Place). left p (dots_set 240 x y (byte_row ram size first.ma first.ra t.ula (suc n)) t.working)) (further d (n * d) (suc n * d) t.place (grind arith))

-- no row and no frame ends with the first character of a longer line
still_more : (c : CrtcState) → ends_line c ≡ false → ends_line (start_leaves c) ≡ false
still_more c more = grind arith

no_row : (c : CrtcState) → ends_line c ≡ false → ends_row c ≡ false
no_row c more = rw more refl

no_frame : (c : CrtcState) → ends_line c ≡ false → ends_frame c ≡ false
no_frame c more = rw more refl

-- the first clock by its parts, and the others
pub from_start : (ram : List ℕ) (size : ℕ) (font : Font) (first : Beam) (n : ℕ) (inside s t u v : State) (chip : CrtcState) → inside ≡ s → first ≡ beam_of inside.crtc →
    chip ≡ clock_leaves inside.crtc → t ≡ begin_leaves first (record inside { crtc = chip }) → ends_line s.crtc ≡ false → 0 < n → AreBehind first (n - 1) t →
    u ≡ bytes_put ram size first.ma first.ra n t →
    v ≡ record u { crtc = clocks (n - 1) u.crtc; place = place_past (n * dots_of u.ula.control) u.place } → v ≡ char_clocks ram size font n s
from_start ram size font first n inside s t u v chip same told after begun more some behind put is =
    let off = still_more inside.crtc (ap (λ (x : State). ends_line x.crtc) same ∙ more) in
    let row : first.row_end ≡ false = ap (λ (b : Beam). b.row_end) told ∙ no_row (start_leaves inside.crtc) off in
    let frame : first.restart ≡ false = ap (λ (b : Beam). b.restart) told ∙ no_frame (start_leaves inside.crtc) off in
    let m = n - 1 in
    let all : suc m ≡ n = omega (arith, some) in
    let ma : first.ma ≡ address (start_leaves inside.crtc) = ap (λ (b : Beam). b.ma) told in
    let small : first.ma < 16384 = omega (arith, ma) in
    let d = dots_of t.ula.control in
    let left = λ (k : ℕ). record t {
      crtc = clocks m t.crtc;
      place = place_past (k * d) t.place;
      working = dots_set 240 t.place.x t.place.y (byte_row ram size first.ma first.ra t.ula k) t.working;
    } in
    is ∙ ap (λ (u : State). record u { crtc = clocks m u.crtc; place = place_past (n * dots_of u.ula.control) u.place }) put
    ∙ ap left (sym all)
    ∙ sym (row_behind ram size font first m t behind small row frame)
    ∙ ap (λ (t : State). char_clocks ram size font m (pass_leaves first (show_leaves ram size font first t))) begun
    ∙ ap (λ (t : State). char_clocks ram size font m t)
    (told_after ram size font inside s first chip (tell_leaves ram size font first (record inside { crtc = chip })) same told after refl)
    ∙ ap (λ k. char_clocks ram size font k s) all
