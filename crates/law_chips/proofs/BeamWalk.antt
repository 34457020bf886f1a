-- The dots that each clock draws, and the position of the beam then, while no register of the 6845
-- is written.
use Rattle.std.proofs.Common.{◌≡◌, ◌∙◌, sym, ap, refl, ℕ, zero, suc, ◌+◌, ◌-◌, ◌*◌, ◌/◌, ◌%◌, ◌<◌, ◌≤◌, ◌==◌, ◌&&◌, ◌⊎◌, Bool, true, false, List, [], ◌∷◌}
use Rattle.std.proofs.Common.{length, arith, inl, inr, subst, min, add-one}
use Rattle.std.specs.Prelude.{slice_index, slice_set, if◌then◌else◌}
use Rattle.std.proofs.lemmas.Bool.{cases_lt, cases_eq}
use Rattle.std.proofs.lemmas.Bool.Decides.{nat_tests}
use Rattle.std.proofs.lemmas.List.{length-set, get_or-set_same, get_or-set_other}
use Rattle.std.proofs.lemmas.Nat.{div-add-mod', mod-mul-add, mod_below, mul-add-lt}
use Rattle.std.proofs.Math.Nat.{add-mul-mod_self_left, zero-mod, zero-div, mul-add-mod_self_right}
use Rattle.raster.specs.Frame.{is_in_frame, dot_set, dots_set, black}
use Rattle.beeb_bits.specs.Bits.{bit}
use Rattle.crtc6845.specs.declared.Beam.{Beam}
use Rattle.crtc6845.specs.State as crtc
use Rattle.crtc6845.specs.Clock.{beam_of, clock_leaves}
use Rattle.crtc6845.specs.Laws.{clocks, tells, line_characters, frame_lines, frame_clocks, LinesHaveTheirCharacters, SyncComesInEachLine}
use Rattle.video_ula.specs.State as ula
use Rattle.video_ula.specs.Pixels.{dots_of}
use Rattle.saa5050.specs.Shapes.{Font}
use Rattle.raster.specs.Beam.{place_at, place_past, byte_address, cursor_past, is_marked, Place}
use Rattle.raster.specs.State.{State}
use Rattle.raster.specs.Clock.{begin_leaves, byte_dots, draw_byte_leaves, draw_cell_leaves, draw_leaves, show_leaves, char_clock_leaves, microseconds}
use Rattle.law_chips.specs.ShownBytes.{char_clocks, MicrosecondsAreClocks, sync_clock, MakesFrames}
use Rattle.crtc6845.specs.Pictures.{sync_line, VerticalSyncComesInEachFrame}

-- ---- Counting in rounds

-- a number and one at most a round later
pub added : (w a j : ℕ) → 0 < w → j < w → ((a + j) % w ≡ a % w + j) ⊎ ((a + j) % w + w ≡ a % w + j)
added w a j some small =
    let q = a / w in
    let h = a % w in
    let e : q * w + h ≡ a = div-add-mod' a w in
    let lt : h < w = mod_below a w some in
    elim (cases_lt (h + j) w) [
      | inl inner ↦
          let same : q * w + (h + j) ≡ a + j = omega arith in
          inl (ap (λ k. k % w) (sym same) ∙ mod-mul-add q w (h + j) inner)
      | inr over ↦
          let turn : (q + 1) * w ≡ q * w + w = grind arith in
          let same : (q + 1) * w + (h + j - w) ≡ a + j = omega arith in
          let is : (a + j) % w ≡ h + j - w = ap (λ k. k % w) (sym same) ∙ mod-mul-add (q + 1) w (h + j - w) (omega arith) in
          inr (omega arith)
    ]

-- the next place, or the next round's first
pub next_place : (w n : ℕ) → 0 < w →
    (((n + 1) % w ≡ 0) × (((n + 1) / w ≡ n / w + 1) × (n % w + 1 ≡ w)))
    ⊎ (((n + 1) % w ≡ n % w + 1) × (((n + 1) / w ≡ n / w) × (n % w + 1 < w)))
next_place w n some = grind arith

pub test_true : (a b : ℕ) → a ≡ b → (a == b) ≡ true
test_true a b h = grind (arith, nat_tests)

pub test_false : (a b : ℕ) → (a ≡ b → ⊥) → (a == b) ≡ false
test_false a b h = grind (arith, nat_tests)

-- an event at place `r` of each round happens again a round's length later
pub comes : (w r v : ℕ) → r < w → ((r + v) % w == r) ≡ (v % w == 0)
comes w r v small =
    let turn : r + v ≡ v + r = omega arith in
    let lt : v % w < w = mod_below v w (omega arith) in
    elim (added w v r (omega arith) small) [
      | inl is ↦
          elim (cases_eq (v % w) 0) [
            | inl none ↦ test_true _ _ (ap (λ k. k % w) turn ∙ omega arith) ∙ sym (test_true _ _ none)
            | inr some ↦
                test_false _ _ (λ same. some (let back : (v + r) % w ≡ r = sym (ap (λ k. k % w) turn) ∙ same in omega arith))
                ∙ sym (test_false _ _ some)
          ]
      | inr is ↦
          test_false _ _ (λ same. let back : (v + r) % w ≡ r = sym (ap (λ k. k % w) turn) ∙ same in omega arith)
          ∙ sym (test_false _ _ (λ none. omega arith))
    ]

pub differs : (w a j : ℕ) → 0 < j → j < w → a % w ≡ (a + j) % w → ⊥
differs w a j more small same = grind arith

-- rounds of rounds
pub within_rounds : (w l t : ℕ) → t % (w * l) % w ≡ t % w
within_rounds w l t =
    let e : t / (w * l) * (w * l) + t % (w * l) ≡ t = div-add-mod' t (w * l) in
    let turn : t / (w * l) * (w * l) ≡ w * (l * (t / (w * l))) = grind arith in
    let same : t % (w * l) + w * (l * (t / (w * l))) ≡ t = omega arith in
    sym (add-mul-mod_self_left (t % (w * l)) w (l * (t / (w * l)))) ∙ ap (λ k. k % w) same

-- ---- Dots of a frame.

both : (a b : Bool) → (a && b) ≡ true → (a ≡ true) × (b ≡ true)
both true true e = (refl, refl)
both true false e = cc
both false b e = cc

pub record Inside (left x y : ℕ) : Type 0 where
  pub from : left ≤ x
  pub to : x < left + 640
  pub top : 40 ≤ y
  pub bottom : y < 296

pub inside : (left x y : ℕ) → is_in_frame left x y ≡ true → Inside left x y
inside left x y e = grind arith

-- the place in the frame of the dot at `x` and `y`
abbrev pub dot_index : ℕ → ℕ → ℕ → ℕ
dot_index left x y = 640 * (y - 40) + (x - left)

-- The `many` dots from `x` on in line `y` do not include the one at column `p` and line `q`.
abbrev pub IsApart : ℕ → ℕ → ℕ → ℕ → ℕ → Type 0
IsApart p q x y many = (q ≡ y → ⊥) ⊎ ((p < x) ⊎ (x + many ≤ p))

pub length_one : (left x y colour : ℕ) (frame : List ℕ) → length (dot_set left x y colour frame) ≡ length frame
length_one left x y colour frame = by_test (is_in_frame left x y) where
  by_test : (b : Bool) → length (if b then slice_set frame (dot_index left x y) colour else frame) ≡ length frame
  by_test true = length-set frame (dot_index left x y) colour
  by_test false = refl

pub length_kept : (left x y : ℕ) (dots frame : List ℕ) → length (dots_set left x y dots frame) ≡ length frame
length_kept left x y [] frame = refl
length_kept left x y (colour ∷ dots) frame =
    length_kept left (x + 1) y dots (dot_set left x y colour frame) ∙ length_one left x y colour frame

-- another dot stays as it was
other_one : (left p q x y colour : ℕ) (frame : List ℕ) → Inside left p q → IsApart p q x y 1 →
    slice_index (dot_set left x y colour frame) (dot_index left p q) ≡ slice_index frame (dot_index left p q)
other_one left p q x y colour frame here apart = grind (arith, inside, get_or-set_other)

first_apart : (p q x y many : ℕ) → IsApart p q x y (suc many) → IsApart p q x y 1
first_apart p q x y many apart = grind arith

rest_apart : (p q x y many : ℕ) → IsApart p q x y (suc many) → IsApart p q (x + 1) y many
rest_apart p q x y many apart = grind arith

pub others : (left p q x y : ℕ) (dots frame : List ℕ) → Inside left p q → IsApart p q x y (length dots) →
    slice_index (dots_set left x y dots frame) (dot_index left p q) ≡ slice_index frame (dot_index left p q)
others left p q x y [] frame here apart = refl
others left p q x y (colour ∷ dots) frame here apart =
    others left p q (x + 1) y dots (dot_set left x y colour frame) here (rest_apart p q x y (length dots) apart)
    ∙ other_one left p q x y colour frame here (first_apart p q x y (length dots) apart)

-- a dot that is drawn has its colour
one : (left x y colour : ℕ) (frame : List ℕ) → is_in_frame left x y ≡ true → length frame ≡ 163840 →
    slice_index (dot_set left x y colour frame) (dot_index left x y) ≡ colour
one left x y colour frame is long =
    let i = inside left x y is in
    ap (λ b. slice_index (if b then slice_set frame (dot_index left x y) colour else frame) (dot_index left x y)) is
    ∙ get_or-set_same frame (dot_index left x y) colour 0 (omega arith)

pub drawn_dot : (left x y d : ℕ) (dots frame : List ℕ) → d < length dots → is_in_frame left (x + d) y ≡ true → length frame ≡ 163840 →
    slice_index (dots_set left x y dots frame) (dot_index left (x + d) y) ≡ slice_index dots d
drawn_dot left x y d [] frame within is long = absurd (omega arith)
drawn_dot left x y zero (colour ∷ dots) frame within is long =
    let z : x + 0 ≡ x = omega arith in
    let is_here : is_in_frame left x y ≡ true = sym (ap (λ k. is_in_frame left k y) z) ∙ is in
    ap (λ k. slice_index (dots_set left (x + 1) y dots (dot_set left x y colour frame)) (dot_index left k y)) z
    ∙ others left x y (x + 1) y dots (dot_set left x y colour frame) (inside left x y is_here) (inr (inl (omega arith)))
    ∙ one left x y colour frame is_here long
drawn_dot left x y (suc d) (colour ∷ dots) frame within is long =
    let e : x + suc d ≡ x + 1 + d = omega arith in
    ap (λ k. slice_index (dots_set left (x + 1) y dots (dot_set left x y colour frame)) (dot_index left k y)) e
    ∙ drawn_dot left (x + 1) y d dots (dot_set left x y colour frame) (omega arith) (sym (ap (λ k. is_in_frame left k y) e) ∙ is)
    (length_one left x y colour frame ∙ long)

-- ---- One clock.

-- A character that is drawn changes only the working frame and the text.
record Draws (s x : State) : Type 0 where
  pub finished : x.finished ≡ s.finished
  pub crtc : x.crtc ≡ s.crtc
  pub ula : x.ula ≡ s.ula
  pub place : x.place ≡ s.place
  pub cursor : x.cursor ≡ s.cursor

choice : (b : Bool) (s x y : State) → Draws s x → Draws s y → Draws s (if b then x else y)
choice true s x y p q = p
choice false s x y p q = q

draws : (ram : List ℕ) (size : ℕ) (font : Font) (beam : Beam) (s : State) → Draws s (show_leaves ram size font beam s)
draws ram size font beam s =
    let byte = slice_index ram (byte_address beam.ma beam.ra size) in
    choice beam.shown s (draw_leaves ram size font beam s) s
    (choice (bit s.ula.control 1) s (draw_cell_leaves font beam (byte % 128) s) (draw_byte_leaves beam byte s)
    (assumption)
    (assumption))
    (assumption)

in_bits : (p q : Bool) (x y s : State) → q ≡ false →
    (if p then (if q then x else y) else s).working ≡ (if p then y.working else s.working)
in_bits p q x y s off = grind arith

-- the dots of a character of a bit-mapped mode
abbrev pub dots_at : List ℕ → ℕ → Beam → State → List ℕ
dots_at ram size b s =
    byte_dots s.ula (slice_index ram (byte_address b.ma b.ra size)) b.ra (is_marked s.ula.control b.cursor s.cursor)

-- the frame that this character is drawn into, and the frame afterwards
abbrev pub frame_at : Beam → State → List ℕ
frame_at b s = if b.frame_end then black else s.working

abbrev pub frame_after : List ℕ → ℕ → Beam → State → List ℕ
frame_after ram size b s =
    if b.shown then dots_set 240 (place_at b s.place).x (place_at b s.place).y (dots_at ram size b s) (frame_at b s) else frame_at b s

-- the raster after one clock, by the 6845's outputs
pub record Clocked (ram : List ℕ) (size : ℕ) (b : Beam) (s x : State) : Type 0 where
  pub ula : x.ula ≡ s.ula
  pub place : x.place ≡ place_past (dots_of s.ula.control) (place_at b s.place)
  pub cursor : x.cursor ≡ cursor_past b.cursor s.cursor
  pub finished : x.finished ≡ (if b.frame_end then s.working else s.finished)
  pub working : bit s.ula.control 1 ≡ false → x.working ≡ frame_after ram size b s

one_clock : (ram : List ℕ) (size : ℕ) (font : Font) (s : State) → Clocked ram size (beam_of s.crtc) s (char_clock_leaves ram size font s)
unfolding char_clock_leaves
one_clock ram size font s =
    let b = beam_of s.crtc in
    let x = begin_leaves b (record s { crtc = clock_leaves s.crtc }) in
    let d = draws ram size font b x in
    let byte = slice_index ram (byte_address b.ma b.ra size) in record {
      ula = d.ula;
      place = ap (λ (u : ula.State). place_past (dots_of u.control) (show_leaves ram size font b x).place) d.ula
          ∙ ap (place_past (dots_of s.ula.control)) d.place;
      cursor = ap (cursor_past b.cursor) d.cursor;
      finished = d.finished;
      working = λ off. in_bits b.shown (bit s.ula.control 1) (draw_cell_leaves font b (byte % 128) x) (draw_byte_leaves b byte x) x off;
    }

one_crtc : (ram : List ℕ) (size : ℕ) (font : Font) (s : State) → (char_clock_leaves ram size font s).crtc ≡ clock_leaves s.crtc
unfolding char_clock_leaves
one_crtc ram size font s = (draws ram size font (beam_of s.crtc) (begin_leaves (beam_of s.crtc) (record s { crtc = clock_leaves s.crtc }))).crtc

-- ---- The 6845 and the ULA do not depend on the raster.

clocks_behind : (n : ℕ) (c : crtc.State) → clocks n (clock_leaves c) ≡ clock_leaves (clocks n c)
clocks_behind zero c = refl
clocks_behind (suc n) c = clocks_behind n (clock_leaves c)

pub by_itself : (ram : ℕ → List ℕ) (size : ℕ → ℕ) (font : Font) (s : State) (n : ℕ) → (char_clocks ram size font n s).crtc ≡ clocks n s.crtc
by_itself ram size font s zero = refl
by_itself ram size font s (suc n) =
    one_crtc (ram n) (size n) font (char_clocks ram size font n s) ∙ ap clock_leaves (by_itself ram size font s n) ∙ sym (clocks_behind n s.crtc)

pub same_ula : (ram : ℕ → List ℕ) (size : ℕ → ℕ) (font : Font) (s : State) (n : ℕ) → (char_clocks ram size font n s).ula ≡ s.ula
same_ula ram size font s zero = refl
same_ula ram size font s (suc n) =
    (one_clock (ram n) (size n) font (char_clocks ram size font n s)).ula ∙ same_ula ram size font s n

-- clock n
pub clock : (ram : ℕ → List ℕ) (size : ℕ → ℕ) (font : Font) (s : State) (n : ℕ) →
    Clocked (ram n) (size n) (tells n s.crtc) (char_clocks ram size font n s) (char_clocks ram size font (suc n) s)
clock ram size font s n =
    subst (λ (c : crtc.State). Clocked (ram n) (size n) (beam_of c) (char_clocks ram size font n s) (char_clocks ram size font (suc n) s))
    (by_itself ram size font s n) (one_clock (ram n) (size n) font (char_clocks ram size font n s))

-- ---- Microseconds.

clocks_from : (ram : List ℕ) (size : ℕ) (font : Font) (n : ℕ) (s : State) →
    char_clocks (λ k. ram) (λ k. size) font n (char_clock_leaves ram size font s) ≡ char_clocks (λ k. ram) (λ k. size) font (suc n) s
clocks_from ram size font zero s = refl
clocks_from ram size font (suc n) s = ap (char_clock_leaves ram size font) (clocks_from ram size font n s)

one_ula : (ram : List ℕ) (size : ℕ) (font : Font) (s : State) (b : Bool) → bit s.ula.control 4 ≡ b →
    bit (char_clock_leaves ram size font s).ula.control 4 ≡ b
one_ula ram size font s b is = ap (λ (u : ula.State). bit u.control 4) (one_clock ram size font s).ula ∙ is

single : (ram : List ℕ) (size : ℕ) (font : Font) (n : ℕ) (s : State) → bit s.ula.control 4 ≡ false →
    microseconds ram size font n s ≡ char_clocks (λ k. ram) (λ k. size) font n s
single ram size font zero s is = refl
single ram size font (suc n) s is =
    let once = char_clock_leaves ram size font s in
    ap (λ b. microseconds ram size font n (if b then char_clock_leaves ram size font once else once)) is
    ∙ single ram size font n once (one_ula ram size font s false is)
    ∙ clocks_from ram size font n s

double : (ram : List ℕ) (size : ℕ) (font : Font) (n : ℕ) (s : State) → bit s.ula.control 4 ≡ true →
    microseconds ram size font n s ≡ char_clocks (λ k. ram) (λ k. size) font (2 * n) s
double ram size font zero s is = refl
double ram size font (suc n) s is =
    let once = char_clock_leaves ram size font s in
    let e : suc (suc (2 * n)) ≡ 2 * suc n = omega arith in
    ap (λ b. microseconds ram size font n (if b then char_clock_leaves ram size font once else once)) is
    ∙ double ram size font n (char_clock_leaves ram size font once) (one_ula ram size font once true (one_ula ram size font s true is))
    ∙ clocks_from ram size font (2 * n) once ∙ clocks_from ram size font (suc (2 * n)) s
    ∙ ap (λ k. char_clocks (λ i. ram) (λ i. size) font k s) e

pub microseconds_are_clocks : MicrosecondsAreClocks
microseconds_are_clocks ram size font n s = by_test (bit s.ula.control 4) refl where
  by_test : (b : Bool) → bit s.ula.control 4 ≡ b →
      microseconds ram size font n s ≡ char_clocks (λ k. ram) (λ k. size) font (if b then 2 * n else n) s
  by_test true is = double ram size font n s is
  by_test false is = single ram size font n s is

-- the laws of the 6845 that the beam follows
pub record Laws : Type 0 where
  pub lines : LinesHaveTheirCharacters
  pub columns : SyncComesInEachLine
  pub frames : VerticalSyncComesInEachFrame

-- ---- The beginnings of the syncs

sync_is_early : (c : crtc.State) → MakesFrames c → sync_line c.registers < frame_lines c.registers
sync_is_early c makes = grind arith

pub sync_in_frame : (c : crtc.State) → MakesFrames c → sync_clock c.registers < frame_clocks c.registers
sync_in_frame c makes =
    let r = c.registers in
    let within : sync_line r * line_characters r + 0 < line_characters r * frame_lines r =
    mul-add-lt (sync_line r) (line_characters r) 0 (frame_lines r) (sync_is_early c makes) (omega arith) in
    omega arith

pub column_sync : Laws → (c : crtc.State) → MakesFrames c → (t : ℕ) →
    (tells (c.registers.horizontal_sync_position + t) c).sync_start ≡ (t % line_characters c.registers == 0)
column_sync laws c makes t = grind (arith, comes)

pub frame_sync : Laws → (c : crtc.State) → MakesFrames c → (t : ℕ) →
    (tells (sync_clock c.registers + t) c).frame_end ≡ (t % frame_clocks c.registers == 0)
frame_sync laws c makes t = grind (arith, comes, sync_in_frame)

line_begins : Laws → (c : crtc.State) → MakesFrames c → (t : ℕ) →
    (tells (sync_clock c.registers + t) c).line_start ≡ (t % line_characters c.registers == 0)
line_begins laws c makes t = grind (arith, mul-add-mod_self_right)

-- ---- The position of the beam

-- the place of the character of clock n
abbrev pub place_in : (ℕ → List ℕ) → (ℕ → ℕ) → Font → State → ℕ → Place
place_in ram size font s n = place_at (tells n s.crtc) (char_clocks ram size font n s).place

pub eight_or_sixteen : (control : ℕ) → (dots_of control ≡ 8) ⊎ (dots_of control ≡ 16)
eight_or_sixteen control = grind arith

fits : (h dots : ℕ) → h < 255 → (dots ≡ 8) ⊎ (dots ≡ 16) → min (h * dots + dots) 4095 ≡ (h + 1) * dots
fits h dots small widths = grind arith

nought : (dots : ℕ) → 0 ≡ 0 * dots
nought dots = omega arith

-- the dots since horizontal sync
x_at : (b : Beam) (p : Place) (q : Bool) → b.sync_start ≡ q → (place_at b p).x ≡ (if q then 0 else p.x)
x_at b p q is = ap (λ k. if k then 0 else p.x) is

pub column_walk : Laws → (ram : ℕ → List ℕ) (size : ℕ → ℕ) (font : Font) (s : State) → MakesFrames s.crtc → (t : ℕ) →
    (place_in ram size font s (s.crtc.registers.horizontal_sync_position + t)).x ≡ t % line_characters s.crtc.registers * dots_of s.ula.control
column_walk laws ram size font s makes zero =
    let w = line_characters s.crtc.registers in
    let n = s.crtc.registers.horizontal_sync_position in
    let none : 0 % w ≡ 0 = zero-mod w in
    x_at (tells (n + 0) s.crtc) (char_clocks ram size font (n + 0) s).place true
    (column_sync laws s.crtc makes 0 ∙ test_true (0 % w) 0 none)
    ∙ nought (dots_of s.ula.control) ∙ ap (λ k. k * dots_of s.ula.control) (sym none)
column_walk laws ram size font s makes (suc t) =
    let w = line_characters s.crtc.registers in
    let dots = dots_of s.ula.control in
    let n = s.crtc.registers.horizontal_sync_position in
    let before = char_clocks ram size font (n + t) s in
    let e : n + suc t ≡ suc (n + t) = omega arith in
    let f : t + 1 ≡ suc t = add-one t in
    let b = tells (n + suc t) s.crtc in
    let sync : b.sync_start ≡ (suc t % w == 0) = column_sync laws s.crtc makes (suc t) in
    let place : (char_clocks ram size font (n + suc t) s).place ≡ place_past dots (place_in ram size font s (n + t)) =
    ap (λ k. (char_clocks ram size font k s).place) e ∙ (clock ram size font s (n + t)).place
    ∙ ap (λ (u : ula.State). place_past (dots_of u.control) (place_in ram size font s (n + t))) (same_ula ram size font s (n + t)) in
    elim (next_place w t (omega arith)) [
      | inl o ↦
          let none : suc t % w ≡ 0 = ap (λ k. k % w) (sym f) ∙ o.0 in
          x_at b (char_clocks ram size font (n + suc t) s).place true (sync ∙ test_true (suc t % w) 0 none)
          ∙ nought dots ∙ ap (λ k. k * dots) (sym none)
      | inr o ↦
          let more : suc t % w ≡ t % w + 1 = ap (λ k. k % w) (sym f) ∙ o.0 in
          let below : suc t % w < w = mod_below (suc t) w (omega arith) in
          x_at b (char_clocks ram size font (n + suc t) s).place false
          (sync ∙ test_false (suc t % w) 0 (λ none. omega arith))
          ∙ ap (λ (p : Place). p.x) place
          ∙ ap (λ k. min (k + dots) 4095) (column_walk laws ram size font s makes t)
          ∙ fits (t % w) dots (omega arith) (eight_or_sixteen s.ula.control)
          ∙ ap (λ k. k * dots) (sym more)
    ]

-- the lines since vertical sync
y_at : (b : Beam) (p : Place) (q k : Bool) → b.frame_end ≡ q → b.line_start ≡ k →
    (place_at b p).y ≡ (if q then 0 else if k then min (p.y + 1) 1023 else p.y)
y_at b p q k is starts = grind arith

one_more : (k : ℕ) → min (min k 1023 + 1) 1023 ≡ min (k + 1) 1023
one_more k = omega arith

pub line_walk : Laws → (ram : ℕ → List ℕ) (size : ℕ → ℕ) (font : Font) (s : State) → MakesFrames s.crtc → (t : ℕ) →
    (place_in ram size font s (sync_clock s.crtc.registers + t)).y
    ≡ min (t % frame_clocks s.crtc.registers / line_characters s.crtc.registers) 1023
line_walk laws ram size font s makes zero =
    let w = line_characters s.crtc.registers in
    let f = frame_clocks s.crtc.registers in
    let n = sync_clock s.crtc.registers in
    let none : 0 % f ≡ 0 = zero-mod f in
    let first : 0 / w ≡ 0 = zero-div w in
    y_at (tells (n + 0) s.crtc) (char_clocks ram size font (n + 0) s).place true _
    (frame_sync laws s.crtc makes 0 ∙ test_true (0 % f) 0 none) refl
    ∙ ap (λ k. min k 1023) (sym (ap (λ k. k / w) none ∙ first))
line_walk laws ram size font s makes (suc t) =
    let w = line_characters s.crtc.registers in
    let f = frame_clocks s.crtc.registers in
    let n = sync_clock s.crtc.registers in
    let within : n < f = sync_in_frame s.crtc makes in
    let u = t % f in
    let e : n + suc t ≡ suc (n + t) = omega arith in
    let g : t + 1 ≡ suc t = add-one t in
    let b = tells (n + suc t) s.crtc in
    let p = (char_clocks ram size font (n + suc t) s).place in
    let ends : b.frame_end ≡ (suc t % f == 0) = frame_sync laws s.crtc makes (suc t) in
    let starts : b.line_start ≡ (suc t % w == 0) = line_begins laws s.crtc makes (suc t) in
    let place : p ≡ place_past (dots_of s.ula.control) (place_in ram size font s (n + t)) =
    ap (λ k. (char_clocks ram size font k s).place) e ∙ (clock ram size font s (n + t)).place
    ∙ ap (λ (u : ula.State). place_past (dots_of u.control) (place_in ram size font s (n + t))) (same_ula ram size font s (n + t)) in
    let was : p.y ≡ min (u / w) 1023 = ap (λ (p : Place). p.y) place ∙ line_walk laws ram size font s makes t in
    elim (next_place f t (omega arith)) [
      | inl o ↦
          let none : suc t % f ≡ 0 = ap (λ k. k % f) (sym g) ∙ o.0 in
          let first : 0 / w ≡ 0 = zero-div w in
          y_at b p true _ (ends ∙ test_true (suc t % f) 0 none) refl ∙ ap (λ k. min k 1023) (sym (ap (λ k. k / w) none ∙ first))
      | inr o ↦
          let more : suc t % f ≡ u + 1 = ap (λ k. k % f) (sym g) ∙ o.0 in
          let runs : b.frame_end ≡ false = ends ∙ test_false (suc t % f) 0 (λ none. omega arith) in
          let round : suc t % w ≡ (u + 1) % w = sym (within_rounds w (frame_lines s.crtc.registers) (suc t)) ∙ ap (λ k. k % w) more in
          elim (next_place w u (omega arith)) [
            | inl i ↦
                y_at b p false true runs (starts ∙ test_true (suc t % w) 0 (round ∙ i.0))
                ∙ ap (λ k. min (k + 1) 1023) was ∙ one_more (u / w)
                ∙ ap (λ k. min k 1023) (sym (ap (λ k. k / w) more ∙ i.1.0))
            | inr i ↦
                let inner : suc t % w ≡ u % w + 1 = round ∙ i.0 in
                y_at b p false false runs (starts ∙ test_false (suc t % w) 0 (λ none. omega arith))
                ∙ was ∙ ap (λ k. min k 1023) (sym (ap (λ k. k / w) more ∙ i.1.0))
          ]
    ]
