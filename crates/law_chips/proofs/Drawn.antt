-- The dots of the frame that is drawn and of the finished one, while no register is written.
use Rattle.std.proofs.Common.{◌≡◌, ◌∙◌, sym, ap, refl, ℕ, zero, suc, ◌+◌, ◌-◌, ◌*◌, ◌/◌, ◌%◌, ◌<◌, ◌≤◌, ◌⊎◌, Bool, true, false, min, List, length, arith, inl}
use Rattle.std.proofs.Common.{inr, map, ◌==◌, ◌&&◌}
use Rattle.std.specs.Prelude.{slice_index, if◌then◌else◌, replicate, nat_le, nat_lt}
use Rattle.std.proofs.lemmas.Bool.{cases_eq}
use Rattle.std.proofs.lemmas.List.{length-replicate, get_or-replicate}
use Rattle.std.proofs.lemmas.Nat.{div-add-mod', mod_below}
use Rattle.std.proofs.Math.Nat.{zero-mod, mul-mod_left}
use Rattle.beeb_bits.specs.Zeros.{zeros}
use Rattle.crtc6845.specs.State as crtc
use Rattle.crtc6845.specs.Laws.{tells, line_characters, frame_clocks}
use Rattle.video_ula.specs.Pixels.{dots_of, under_cursor, dot_colour}
use Rattle.saa5050.specs.Shapes.{Font}
use Rattle.raster.specs.Frame.{is_in_frame, black, dots_set}
use Rattle.raster.specs.State.{State}
use Rattle.law_chips.specs.ShownBytes.{char_clocks, sync_clock, beam_dot, beam_line, finish_clock, MakesFrames, IsUnderWay, character_address, raster_at}
use Rattle.law_chips.specs.ShownBytes.{byte_at, shown_colour, cursor_before, is_marked_at, colour_at, CharactersAreShown, FramesShowTheirBytes, is_shown_at}
use Rattle.law_chips.specs.ShownBytes.{has_dot, frame_start, RestIsBlack}
use Rattle.law_chips.proofs.BeamWalk.{added, test_true, test_false, differs, Inside, inside, dot_index, IsApart, length_kept, others, drawn_dot}
use Rattle.law_chips.proofs.BeamWalk.{frame_at, clock, dots_at, same_ula}
use Rattle.law_chips.proofs.BeamWalk.{Laws, place_in, eight_or_sixteen, sync_in_frame, frame_sync, column_walk, line_walk}
use Rattle.std.specs.List.{range_with_len}
use Rattle.std.proofs.lemmas.List.FromFn.{get_or-map-range_with_len}
use Rattle.beeb_bits.specs.Bits.{bit}
use Rattle.crtc6845.specs.Pictures.{ShownAddressesCount}
use Rattle.video_ula.specs.State as ula
use Rattle.raster.specs.Beam.{Cursor, byte_address, cursor_past, is_marked}
use Rattle.raster.specs.Clock.{byte_dots}

-- Each shown character draws `dots`, from the beam's position on, in a frame that begins at dot
-- `left` of a line.
pub record Shows (left : ℕ) (ram : ℕ → List ℕ) (size : ℕ → ℕ) (font : Font) (s : State) (dots : ℕ → List ℕ) : Type 0 where
  pub many : (n : ℕ) → length (dots n) ≡ dots_of s.ula.control
  pub working : (n : ℕ) →
      (char_clocks ram size font (suc n) s).working
      ≡ (if (tells n s.crtc).shown
      then dots_set left (place_in ram size font s n).x (place_in ram size font s n).y (dots n) (frame_at (tells n s.crtc) (char_clocks ram size font n s))
      else frame_at (tells n s.crtc) (char_clocks ram size font n s))

-- ---- The frame has all of its dots.

black_length : length black ≡ 163840
unfolding zeros
black_length = length-replicate {A = ℕ} 163840 0

begun_length : (ends : Bool) (frame : List ℕ) → length frame ≡ 163840 → length (if ends then black else frame) ≡ 163840
begun_length true frame is = black_length
begun_length false frame is = is

drawn_length : (is : Bool) (left x y : ℕ) (dots frame : List ℕ) → length frame ≡ 163840 →
    length (if is then dots_set left x y dots frame else frame) ≡ 163840
drawn_length true left x y dots frame long = length_kept left x y dots frame ∙ long
drawn_length false left x y dots frame long = long

-- ---- A dot of the frame that is drawn.

-- A character that is not shown draws nothing. One that is shown draws other dots.
stays_if : (is : Bool) (left p q x y : ℕ) (dots frame : List ℕ) → Inside left p q → (is ≡ true → IsApart p q x y (length dots)) →
    slice_index (if is then dots_set left x y dots frame else frame) (dot_index left p q) ≡ slice_index frame (dot_index left p q)
stays_if true left p q x y dots frame here apart = others left p q x y dots frame here (apart refl)
stays_if false left p q x y dots frame here apart = refl

-- another character of the same line, or one of another line, has other dots
columns_apart : (a b dots d : ℕ) → (a ≡ b → ⊥) → d < dots → (dots ≡ 8) ⊎ (dots ≡ 16) → (a * dots + d < b * dots) ⊎ (b * dots + dots ≤ a * dots + d)
columns_apart a b dots d other within widths = grind arith

same_line : (w u j : ℕ) → 0 < w → (u + j) / w ≡ u / w → j < w
same_line w u j some same = grind arith

apart : (w a u j dots d many : ℕ) → 0 < w → 0 < j → d < dots → (dots ≡ 8) ⊎ (dots ≡ 16) → u / w < 296 → many ≡ dots →
    IsApart (a % w * dots + d) (u / w) ((a + j) % w * dots) (min ((u + j) / w) 1023) many
apart w a u j dots d many some more within widths bottom all = elim (cases_eq ((u + j) / w) (u / w)) [
  | inl same ↦
      inr (rw all (columns_apart (a % w) ((a + j) % w) dots d (differs w a j more (same_line w u j some same)) within widths))
  | inr other ↦ inl (λ line. other (omega arith))
]

pub apart_at : (p q x y k l many : ℕ) → x ≡ k → y ≡ l → IsApart p q k l many → IsApart p q x y many
apart_at p q x y k l many e g is = rw (e, g) is

-- clock `n` is `t` clocks after the beginning of the first vertical sync, and `a` after that of the
-- first horizontal one
pub record IsClock (r : crtc.Registers) (n t a : ℕ) : Type 0 where
  pub vertical : sync_clock r + t ≡ n
  pub horizontal : r.horizontal_sync_position + a ≡ n

-- no sync is within a frame
pub no_sync : Laws → (s : State) (t j : ℕ) → MakesFrames s.crtc → t % frame_clocks s.crtc.registers + suc j < frame_clocks s.crtc.registers →
    ((tells (sync_clock s.crtc.registers + (t + suc j)) s.crtc).frame_end ≡ false)
    × ((t + suc j) % frame_clocks s.crtc.registers ≡ t % frame_clocks s.crtc.registers + suc j)
no_sync laws s t j makes below =
    let f = frame_clocks s.crtc.registers in
    let more : (t + suc j) % f ≡ t % f + suc j = elim (added f t (suc j) (omega arith) (omega arith)) [
      | inl is ↦ is
      | inr is ↦ absurd (omega arith)
    ] in
    (frame_sync laws s.crtc makes (t + suc j) ∙ test_false ((t + suc j) % f) 0 (λ none. omega arith), more)

-- ---- The finished frame.

-- a frame that is finished at a clock stays until the next one is
pub finished_stays : Laws → (ram : ℕ → List ℕ) (size : ℕ → ℕ) (font : Font) (s : State) (t : ℕ) → MakesFrames s.crtc →
    t % frame_clocks s.crtc.registers ≡ 0 → (i : ℕ) → i < frame_clocks s.crtc.registers →
    (char_clocks ram size font (sync_clock s.crtc.registers + t + suc i) s).finished
    ≡ (char_clocks ram size font (sync_clock s.crtc.registers + t) s).working
finished_stays laws ram size font s t makes whole zero below =
    let n = sync_clock s.crtc.registers + t in
    let e : n + suc 0 ≡ suc n = omega arith in
    let x = char_clocks ram size font n s in
    ap (λ k. (char_clocks ram size font k s).finished) e ∙ (clock ram size font s n).finished
    ∙ ap (λ k. if k then x.working else x.finished) (frame_sync laws s.crtc makes t ∙ test_true (t % frame_clocks s.crtc.registers) 0 whole)
finished_stays laws ram size font s t makes whole (suc i) below =
    let n = sync_clock s.crtc.registers + t in
    let m = n + suc i in
    let e : n + suc (suc i) ≡ suc m = omega arith in
    let g : sync_clock s.crtc.registers + (t + suc i) ≡ m = omega arith in
    let x = char_clocks ram size font m s in
    let runs : (tells m s.crtc).frame_end ≡ false =
    ap (λ k. (tells k s.crtc).frame_end) (sym g) ∙ (no_sync laws s t i makes (omega arith)).0 in
    ap (λ k. (char_clocks ram size font k s).finished) e ∙ (clock ram size font s m).finished
    ∙ ap (λ k. if k then x.working else x.finished) runs
    ∙ finished_stays laws ram size font s t makes whole i (omega arith)

module _ (laws : Laws) (left : ℕ) (ram : ℕ → List ℕ) (size : ℕ → ℕ) (font : Font) (s : State) (dots : ℕ → List ℕ) (makes : MakesFrames s.crtc)
    (shows : Shows left ram size font s dots) where
  frame_length : (t : ℕ) →
      length (frame_at (tells (sync_clock s.crtc.registers + t) s.crtc) (char_clocks ram size font (sync_clock s.crtc.registers + t) s)) ≡ 163840
  frame_length zero =
      let n = sync_clock s.crtc.registers in
      let f = frame_clocks s.crtc.registers in
      ap (λ q. length (if q then black else (char_clocks ram size font (n + 0) s).working))
      (frame_sync laws s.crtc makes 0 ∙ test_true (0 % f) 0 (zero-mod f))
      ∙ black_length
  frame_length (suc t) =
      let n = sync_clock s.crtc.registers + t in
      let e : sync_clock s.crtc.registers + suc t ≡ suc n = omega arith in
      let b = tells n s.crtc in
      let x = char_clocks ram size font n s in
      let long : length (char_clocks ram size font (suc n) s).working ≡ 163840 =
      ap length (shows.working n)
      ∙ drawn_length b.shown left (place_in ram size font s n).x (place_in ram size font s n).y (dots n) (frame_at b x)
      (frame_length t) in
      begun_length (tells (sync_clock s.crtc.registers + suc t) s.crtc).frame_end _
      (ap (λ k. length (char_clocks ram size font k s).working) e ∙ long)

  -- the dot is drawn
  drawn_now : (n t a d : ℕ) → IsClock s.crtc.registers n t a → (tells n s.crtc).shown ≡ true → d < dots_of s.ula.control →
      let p = a % line_characters s.crtc.registers * dots_of s.ula.control + d in
      let q = t % frame_clocks s.crtc.registers / line_characters s.crtc.registers in
      is_in_frame left p q ≡ true →
      slice_index (char_clocks ram size font (suc n) s).working (dot_index left p q) ≡ slice_index (dots n) d
  drawn_now n t a d at is within here =
      let w = line_characters s.crtc.registers in
      let p = a % w * dots_of s.ula.control + d in
      let q = t % frame_clocks s.crtc.registers / w in
      let bottom : q < 296 = (inside left p q here).bottom in
      let b = tells n s.crtc in
      let x = char_clocks ram size font n s in
      let place = place_in ram size font s n in
      let frame = frame_at b x in
      let column : place.x ≡ a % w * dots_of s.ula.control =
      ap (λ k. (place_in ram size font s k).x) (sym at.horizontal) ∙ column_walk laws ram size font s makes a in
      let level : place.y ≡ q =
      ap (λ k. (place_in ram size font s k).y) (sym at.vertical) ∙ line_walk laws ram size font s makes t ∙ omega arith in
      let long : length frame ≡ 163840 =
      ap (λ k. length (frame_at (tells k s.crtc) (char_clocks ram size font k s))) (sym at.vertical)
      ∙ frame_length t in
      let many : length (dots n) ≡ dots_of s.ula.control = shows.many n in
      ap (λ xs. slice_index xs (dot_index left p q)) (shows.working n)
      ∙ rw (is, column, level) (drawn_dot left (a % w * dots_of s.ula.control) q d (dots n) frame (omega arith) here long)

  -- and it stays to the end of the frame
  drawn_later : (n t a d colour : ℕ) → IsClock s.crtc.registers n t a → d < dots_of s.ula.control →
      let p = a % line_characters s.crtc.registers * dots_of s.ula.control + d in
      let q = t % frame_clocks s.crtc.registers / line_characters s.crtc.registers in
      is_in_frame left p q ≡ true →
      slice_index (char_clocks ram size font (suc n) s).working (dot_index left p q) ≡ colour →
      (j : ℕ) → t % frame_clocks s.crtc.registers + suc j ≤ frame_clocks s.crtc.registers →
      slice_index (char_clocks ram size font (n + suc j) s).working (dot_index left p q) ≡ colour
  drawn_later n t a d colour at within here first zero below =
      let w = line_characters s.crtc.registers in
      let p = a % w * dots_of s.ula.control + d in
      let q = t % frame_clocks s.crtc.registers / w in
      let e : n + suc 0 ≡ suc n = omega arith in
      ap (λ k. slice_index (char_clocks ram size font k s).working (dot_index left p q)) e ∙ first
  drawn_later n t a d colour at within here first (suc j) below =
      let w = line_characters s.crtc.registers in
      let f = frame_clocks s.crtc.registers in
      let u = t % f in
      let wide = dots_of s.ula.control in
      let p = a % w * wide + d in
      let q = u / w in
      let i : Inside left p q = inside left p q here in
      let bottom : q < 296 = i.bottom in
      let m = n + suc j in
      let e : n + suc (suc j) ≡ suc m = omega arith in
      let b = tells m s.crtc in
      let x = char_clocks ram size font m s in
      let place = place_in ram size font s m in
      let vertical : sync_clock s.crtc.registers + (t + suc j) ≡ m = omega arith in
      let horizontal : s.crtc.registers.horizontal_sync_position + (a + suc j) ≡ m = omega arith in
      let inner = no_sync laws s t j makes (omega arith) in
      let runs : b.frame_end ≡ false = ap (λ k. (tells k s.crtc).frame_end) (sym vertical) ∙ inner.0 in
      let column : place.x ≡ (a + suc j) % w * wide =
      ap (λ k. (place_in ram size font s k).x) (sym horizontal) ∙ column_walk laws ram size font s makes (a + suc j) in
      let level : place.y ≡ min ((u + suc j) / w) 1023 =
      ap (λ k. (place_in ram size font s k).y) (sym vertical) ∙ line_walk laws ram size font s makes (t + suc j)
      ∙ ap (λ k. min (k / w) 1023) inner.1 in
      let apart_here : IsApart p q place.x place.y (length (dots m)) =
      apart_at p q place.x place.y ((a + suc j) % w * wide) (min ((u + suc j) / w) 1023) (length (dots m)) column level
      (apart w a u (suc j) wide d (length (dots m)) (omega arith) (omega arith) within (eight_or_sixteen s.ula.control) bottom (shows.many m)) in
      ap (λ k. slice_index (char_clocks ram size font k s).working (dot_index left p q)) e
      ∙ ap (λ xs. slice_index xs (dot_index left p q)) (shows.working m)
      ∙ stays_if b.shown left p q place.x place.y (dots m) (frame_at b x) i (λ is. apart_here)
      ∙ ap (λ k. slice_index (if k then black else x.working) (dot_index left p q)) runs
      ∙ drawn_later n t a d colour at within here first j (omega arith)

  -- A dot of a character that is shown is in the finished frame.
  pub finished_dot : (n d m : ℕ) →
      let r = s.crtc.registers in
      let x = beam_dot r (dots_of s.ula.control) n + d in
      let y = beam_line r n in
      IsUnderWay r n → (tells n s.crtc).shown ≡ true → d < dots_of s.ula.control →
      is_in_frame left x y ≡ true → finish_clock r n < m → m ≤ finish_clock r n + frame_clocks r →
      slice_index (char_clocks ram size font m s).finished (640 * (y - 40) + (x - left)) ≡ slice_index (dots n) d
  finished_dot n d m runs is within here after before =
      let r = s.crtc.registers in
      let w = line_characters r in
      let f = frame_clocks r in
      let first = sync_clock r in
      let t = n - first in
      let a = n - r.horizontal_sync_position in
      let u = t % f in
      let p = a % w * dots_of s.ula.control + d in
      let q = u / w in
      let early : first < f = sync_in_frame s.crtc makes in
      let some : 0 < f = omega arith in
      let at : IsClock r n t a = record { vertical = omega arith; horizontal = omega arith } in
      let below : u < f = mod_below t f some in
      let turns = (t / f + 1) * f in
      let split : t / f * f + u ≡ t = div-add-mod' t f in
      let one_turn : turns ≡ t / f * f + f = grind arith in
      let whole : turns % f ≡ 0 = mul-mod_left (t / f + 1) f in
      let j = f - u - 1 in
      let i = m - (first + turns) - 1 in
      let last : n + suc j ≡ first + turns = omega arith in
      let now : first + turns + suc i ≡ m = omega arith in
      ap (λ k. slice_index (char_clocks ram size font k s).finished (dot_index left p q)) (sym now)
      ∙ ap (λ xs. slice_index xs (dot_index left p q))
      (finished_stays laws ram size font s turns makes whole i (omega arith))
      ∙ ap (λ k. slice_index (char_clocks ram size font k s).working (dot_index left p q)) (sym last)
      ∙ drawn_later n t a d _ at within here
      (drawn_now n t a d at is within here) j (omega arith)

-- ---- The dots of a character.

pub dot_count : (u : ula.State) (byte ra : ℕ) (marked : Bool) → length (byte_dots u byte ra marked) ≡ dots_of u.control
dot_count u byte ra marked = grind arith

dot_is : (u : ula.State) (byte ra : ℕ) (marked : Bool) (d : ℕ) → d < dots_of u.control →
    slice_index (byte_dots u byte ra marked) d ≡ shown_colour u byte ra marked d
dot_is u byte ra marked d within = by_test (bit ra 3) where
  by_test : (b : Bool) →
      slice_index (if b then replicate (dots_of u.control) (under_cursor marked 0) else map (dot_colour u byte marked) (range_with_len 0 (dots_of u.control))) d
      ≡ (if b then under_cursor marked 0 else dot_colour u byte marked d)
  by_test true = get_or-replicate (dots_of u.control) d (under_cursor marked 0) 0 within
  by_test false = get_or-map-range_with_len (dot_colour u byte marked) 0 (dots_of u.control) d d 0 within (omega arith)

-- the characters that the cursor was on, by the 6845's outputs at them
pub cursor_was : (ram : ℕ → List ℕ) (size : ℕ → ℕ) (font : Font) (s : State) (n : ℕ) → 3 ≤ n →
    (char_clocks ram size font n s).cursor ≡ cursor_before s.crtc n
cursor_was ram size font s n three =
    let k = n - 3 in
    let e : n ≡ suc (suc (suc k)) = omega arith in
    let one : n - 1 ≡ suc (suc k) = omega arith in
    let two : n - 2 ≡ suc k = omega arith in
    let last = (clock ram size font s k).cursor in
    let middle = (clock ram size font s (suc k)).cursor in
    let first = (clock ram size font s (suc (suc k))).cursor in
    let here = λ (j : ℕ). (tells j s.crtc).cursor in
    ap (λ j. (char_clocks ram size font j s).cursor) e
    ∙ first ∙ ap (cursor_past (here (suc (suc k)))) (middle ∙ ap (cursor_past (here (suc k))) last)
    ∙ cursors (here (suc (suc k))) (here (n - 1)) (here (suc k)) (here (n - 2)) (here k) (ap here (sym one)) (ap here (sym two))
  where
    cursors : (a x b y z : Bool) → a ≡ x → b ≡ y →
        ◌≡◌ {A = Cursor} (record { one_ago = a; two_ago = b; three_ago = z }) (record { one_ago = x; two_ago = y; three_ago = z })
    cursors a x b y z p q = rw (p, q)

-- a dot of the character of clock n is of the colour of its byte
colour_is : ShownAddressesCount → CharactersAreShown → (ram : ℕ → List ℕ) (size : ℕ → ℕ) (font : Font) (s : State) (n d : ℕ) →
    MakesFrames s.crtc → 3 ≤ n → (tells n s.crtc).shown ≡ true → d < dots_of s.ula.control →
    slice_index (dots_at (ram n) (size n) (tells n s.crtc) (char_clocks ram size font n s)) d ≡ colour_at (ram n) (size n) s.ula s.crtc n d
colour_is count characters ram size font s n d makes three is within =
    let r = s.crtc.registers in
    let b = tells n s.crtc in
    let x = char_clocks ram size font n s in
    let there : b.ma ≡ character_address r n = count s.crtc n makes.bits makes.begins makes.base is in
    let level : b.ra ≡ raster_at r n = characters.raster s.crtc n makes.bits makes.begins is in
    let dot = λ (u : ula.State) (ma ra : ℕ) (c : Cursor).
    slice_index (byte_dots u (slice_index (ram n) (byte_address ma ra (size n))) ra (is_marked u.control b.cursor c)) d in
    ap (λ (u : ula.State). dot u b.ma b.ra x.cursor) (same_ula ram size font s n)
    ∙ ap (dot s.ula b.ma b.ra) (cursor_was ram size font s n three)
    ∙ ap (λ k. dot s.ula k b.ra (cursor_before s.crtc n)) there
    ∙ ap (λ k. dot s.ula (character_address r n) k (cursor_before s.crtc n)) level
    ∙ dot_is s.ula (byte_at (ram n) (size n) r n) (raster_at r n) (is_marked_at s.ula.control s.crtc n) d within

-- the dots that each character draws
pub bytes_shown : (ram : ℕ → List ℕ) (size : ℕ → ℕ) (font : Font) (s : State) → bit s.ula.control 1 ≡ false →
    Shows 240 ram size font s (λ n. dots_at (ram n) (size n) (tells n s.crtc) (char_clocks ram size font n s))
bytes_shown ram size font s off = record {
  many = λ n.
      let b = tells n s.crtc in
      let x = char_clocks ram size font n s in
      dot_count x.ula (slice_index (ram n) (byte_address b.ma b.ra (size n))) b.ra (is_marked x.ula.control b.cursor x.cursor)
      ∙ ap (λ (u : ula.State). dots_of u.control) (same_ula ram size font s n);
  working = λ n.
      (clock ram size font s n).working (ap (λ (u : ula.State). bit u.control 1) (same_ula ram size font s n) ∙ off);
}

pub frames_show_their_bytes : Laws → ShownAddressesCount → CharactersAreShown → FramesShowTheirBytes
frames_show_their_bytes laws count characters ram size font s n d m makes off runs met within here after before =
    let is : (tells n s.crtc).shown ≡ true = characters.which s.crtc n makes.bits makes.begins ∙ met in
    finished_dot laws 240 ram size font s (λ n. dots_at (ram n) (size n) (tells n s.crtc) (char_clocks ram size font n s)) makes
    (bytes_shown ram size font s off) n d m runs is within here after before
    ∙ colour_is count characters ram size font s n d makes runs.three is within

black_dot : (left p q : ℕ) → Inside left p q → slice_index black (dot_index left p q) ≡ 0
unfolding zeros
black_dot left p q i =
    get_or-replicate {A = ℕ} 163840 (dot_index left p q) 0 0 (omega arith)

and_second : (a b : Bool) → (a && b) ≡ false → a ≡ true → b ≡ false
and_second true b e is = e
and_second false b e is = cc

both_true : (a b c : Bool) → a ≡ true → b ≡ true → c ≡ true → (a && b && c) ≡ true
both_true a b c h i j = rw (h, i, j)

elsewhere : (l x p q dots : ℕ) → q < 296 → (l == q && nat_le x p && nat_lt p (x + dots)) ≡ false → IsApart p q x (min l 1023) dots
elsewhere l x p q dots bottom other = grind arith

-- no character of frame k has the dot
abbrev pub IsFree : State → ℕ → ℕ → ℕ → Type 0
IsFree s k x y =
    (n : ℕ) → frame_start s.crtc.registers k ≤ n → n < frame_start s.crtc.registers (k + 1) →
    (is_shown_at s.crtc.registers n && has_dot s.crtc.registers (dots_of s.ula.control) n x y) ≡ false

next_start : (s : State) (k : ℕ) → frame_start s.crtc.registers (k + 1) ≡ frame_start s.crtc.registers k + frame_clocks s.crtc.registers
next_start s k = grind arith

module _ (laws : Laws) (characters : CharactersAreShown) (left : ℕ) (ram : ℕ → List ℕ) (size : ℕ → ℕ) (font : Font) (s : State) (dots : ℕ → List ℕ) (k p q : ℕ)
    (makes : MakesFrames s.crtc) (shows : Shows left ram size font s dots) (late : s.crtc.registers.horizontal_sync_position ≤ frame_start s.crtc.registers k)
    (here : is_in_frame left p q ≡ true) (free : IsFree s k p q) where
  -- one clock of the frame
  stays_black : (j : ℕ) → j < frame_clocks s.crtc.registers →
      let n = frame_start s.crtc.registers k + j in
      slice_index (char_clocks ram size font (suc n) s).working (dot_index left p q)
      ≡ slice_index (frame_at (tells n s.crtc) (char_clocks ram size font n s)) (dot_index left p q)
  stays_black j below =
      let r = s.crtc.registers in
      let f = frame_clocks r in
      let start = frame_start r k in
      let n = start + j in
      let wide = dots_of s.ula.control in
      let i : Inside left p q = inside left p q here in
      let bottom : q < 296 = i.bottom in
      let b = tells n s.crtc in
      let x = char_clocks ram size font n s in
      let place = place_in ram size font s n in
      let a = n - r.horizontal_sync_position in
      let t = n - sync_clock r in
      let vertical : sync_clock r + t ≡ n = omega arith in
      let horizontal : r.horizontal_sync_position + a ≡ n = omega arith in
      let column : place.x ≡ beam_dot r wide n =
      ap (λ i. (place_in ram size font s i).x) (sym horizontal) ∙ column_walk laws ram size font s makes a in
      let level : place.y ≡ min (beam_line r n) 1023 =
      ap (λ i. (place_in ram size font s i).y) (sym vertical) ∙ line_walk laws ram size font s makes t in
      let many : length (dots n) ≡ wide = shows.many n in
      let next = next_start s k in
      let none : (is_shown_at r n && has_dot r wide n p q) ≡ false = free n (omega arith) (omega arith) in
      let apart : b.shown ≡ true → IsApart p q place.x place.y (length (dots n)) = λ is.
      apart_at p q place.x place.y (beam_dot r wide n) (min (beam_line r n) 1023) _ column level
      (rw many (elsewhere (beam_line r n) (beam_dot r wide n) p q wide bottom
      (and_second (is_shown_at r n) (has_dot r wide n p q) none (sym (characters.which s.crtc n makes.bits makes.begins) ∙ is)))) in
      ap (λ xs. slice_index xs (dot_index left p q)) (shows.working n)
      ∙ stays_if b.shown left p q place.x place.y (dots n) (frame_at b x) i apart

  black_after : (j : ℕ) → j < frame_clocks s.crtc.registers →
      slice_index (char_clocks ram size font (suc (frame_start s.crtc.registers k + j)) s).working (dot_index left p q) ≡ 0
  black_after zero below =
      let r = s.crtc.registers in
      let n = frame_start r k + 0 in
      let e : sync_clock r + k * frame_clocks r ≡ n = omega arith in
      let ends : (tells n s.crtc).frame_end ≡ true =
      ap (λ i. (tells i s.crtc).frame_end) (sym e) ∙ frame_sync laws s.crtc makes (k * frame_clocks r)
      ∙ test_true (k * frame_clocks r % frame_clocks r) 0 (mul-mod_left k (frame_clocks r)) in
      stays_black 0 below
      ∙ ap (λ i. slice_index (if i then black else (char_clocks ram size font n s).working) (dot_index left p q)) ends
      ∙ black_dot left p q (inside left p q here)
  black_after (suc j) below =
      let r = s.crtc.registers in
      let f = frame_clocks r in
      let n = frame_start r k + suc j in
      let e : sync_clock r + (k * f + suc j) ≡ n = omega arith in
      let g : suc (frame_start r k + j) ≡ n = omega arith in
      let whole : k * f % f ≡ 0 = mul-mod_left k f in
      let runs : (tells n s.crtc).frame_end ≡ false =
      ap (λ i. (tells i s.crtc).frame_end) (sym e) ∙ (no_sync laws s (k * f) j makes (omega arith)).0 in
      stays_black (suc j) below
      ∙ ap (λ i. slice_index (if i then black else (char_clocks ram size font n s).working) (dot_index left p q)) runs
      ∙ ap (λ i. slice_index (char_clocks ram size font i s).working (dot_index left p q)) (sym g)
      ∙ black_after j (omega arith)

  -- a dot that no character of a frame has is black in it
  pub free_is_black : (m : ℕ) →
      let r = s.crtc.registers in
      let finish = frame_start r (k + 1) in
      finish < m → m ≤ finish + frame_clocks r →
      slice_index (char_clocks ram size font m s).finished (640 * (q - 40) + (p - left)) ≡ 0
  free_is_black m after before =
      let r = s.crtc.registers in
      let f = frame_clocks r in
      let finish = frame_start r (k + 1) in
      let early : sync_clock r < f = sync_in_frame s.crtc makes in
      let next : finish ≡ frame_start r k + f = next_start s k in
      let i = m - finish - 1 in
      let j = f - 1 in
      let last : suc (frame_start r k + j) ≡ finish = omega arith in
      let now : finish + suc i ≡ m = omega arith in
      ap (λ n. slice_index (char_clocks ram size font n s).finished (dot_index left p q)) (sym now)
      ∙ ap (λ xs. slice_index xs (dot_index left p q))
      (finished_stays laws ram size font s ((k + 1) * f) makes (mul-mod_left (k + 1) f) i (omega arith))
      ∙ ap (λ n. slice_index (char_clocks ram size font n s).working (dot_index left p q)) (sym last)
      ∙ black_after j (omega arith)

pub rest_is_black : Laws → CharactersAreShown → RestIsBlack
rest_is_black laws characters ram size font s k x y m makes off late here free after before =
    free_is_black laws characters 240 ram size font s (λ n. dots_at (ram n) (size n) (tells n s.crtc) (char_clocks ram size font n s)) k x y makes
    (bytes_shown ram size font s off) late here free m after before
