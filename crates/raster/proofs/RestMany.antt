-- Many microseconds of a quiet raster.
use Rattle.std.proofs.Common.{◌≡◌, ◌∙◌, sym, ap, refl, ℕ, zero, suc, ◌+◌, ◌≤◌, Bool, true, false, min, List, [], None, arith}
use Rattle.std.specs.Prelude.{if◌then◌else◌}
use Rattle.beeb_bits.specs.Bits.{bit}
use Rattle.crtc6845.specs.declared.Beam.{Beam}
use Rattle.crtc6845.specs.State.{State as CrtcState}
use Rattle.crtc6845.specs.Clock.{begins_horizontal_sync, finishes_frame, clock_leaves}
use Rattle.crtc6845.specs.Laws.{clocks}
use Rattle.crtc6845.specs.CodeSteps.{quiet_beam}
use Rattle.crtc6845.specs.Rests.{frames_in, clocks_past_frame, RestsOn, ClocksAtRestAreAlike}
use Rattle.video_ula.specs.Pixels.{dots_of}
use Rattle.saa5050.specs.Shapes.{Font}
use Rattle.raster.specs.Frame.{black}
use Rattle.raster.specs.Beam.{Cursor}
use Rattle.raster.specs.Text.{Text}
use Rattle.raster.specs.State.{State}
use Rattle.raster.specs.Clock.{tell_leaves, char_clock_leaves, microsecond, microseconds}
use Rattle.raster.specs.CodeQuiet.{IsQuiet}
use Rattle.raster.proofs.Quiet.{sixteen, one_clock, cursor_far}

-- one of them, with or without a finished frame
left_by : Bool → CrtcState → State → ℕ → Cursor → Text → State
left_by f chip s x cursor text = record s {
  crtc = chip;
  place = record { x = x; y = if f then 0 else min (s.place.y + 1) 1023 };
  cursor = cursor;
  text = text;
  working = if f then black else s.working;
  finished = if f then s.working else s.finished;
}

fallen_by : Bool → CrtcState → State → State
fallen_by f chip s = left_by f chip s s.place.x s.cursor s.text

along_by : Bool → ℕ → ℕ → ℕ
along_by b x dots = min ((if b then 0 else x) + dots) 4095

same_sync : (c chip : CrtcState) → chip ≡ record c { sync_lines = chip.sync_lines; fields = chip.fields } → begins_horizontal_sync chip ≡ begins_horizontal_sync c
same_sync c chip stays = ap (λ (k : CrtcState). begins_horizontal_sync k) stays

is_told_by : (ram : List ℕ) (size : ℕ) (font : Font) (s : State) (f : Bool) (chip : CrtcState) → IsQuiet s → begins_horizontal_sync chip ≡ begins_horizontal_sync s.crtc →
    tell_leaves ram size font (quiet_beam f chip) (record s { crtc = chip }) ≡ fallen_by f chip s
unfolding fallen_by left_by along_by
is_told_by ram size font s f chip h same =
    let x : s.place.x ≡ along_by (begins_horizontal_sync chip) s.place.x (dots_of s.ula.control) =
    h.x ∙ ap (λ (b : Bool). along_by b s.place.x 16) (sym same) ∙ ap (along_by (begins_horizontal_sync chip) s.place.x) (sym (sixteen s.ula.control h.clock)) in
    let x_left = along_by (begins_horizontal_sync chip) s.place.x (dots_of s.ula.control) in
    sym (ap (λ x. left_by f chip s x s.cursor s.text) x ∙ ap (λ cursor. left_by f chip s x_left cursor s.text) (cursor_far s.cursor h.cursor)
    ∙ ap (left_by f chip s x_left _) h.text)

falls_by : (ram : List ℕ) (size : ℕ) (font : Font) (s : State) → IsQuiet s → RestsOn s.crtc →
    microsecond ram size font s ≡ fallen_by (finishes_frame s.crtc) (clock_leaves s.crtc) s
unfolding char_clock_leaves
falls_by ram size font s h on =
    sym (one_clock (bit s.ula.control 4) (char_clock_leaves ram size font (char_clock_leaves ram size font s)) (char_clock_leaves ram size font s) h.clock)
    ∙ ap (λ (b : Beam). tell_leaves ram size font b (record s { crtc = clock_leaves s.crtc })) on.told
    ∙ is_told_by ram size font s (finishes_frame s.crtc) (clock_leaves s.crtc) h (same_sync s.crtc (clock_leaves s.crtc) on.stays)

settled_on : (f : Bool) (s : State) → IsQuiet s → RestsOn s.crtc → IsQuiet (fallen_by f (clock_leaves s.crtc) s)
unfolding fallen_by left_by along_by
settled_on f s h on = record {
  rest = on.rest;
  clock = h.clock;
  x = h.x ∙ ap (λ (b : Bool). along_by b s.place.x 16) (sym (same_sync s.crtc (clock_leaves s.crtc) on.stays));
  cursor = h.cursor;
  text = h.text;
}

-- n of them, by the frames that they finish
pub working_by : ℕ → List ℕ → List ℕ
working_by zero w = w
working_by (suc k) w = black

pub finished_by : ℕ → List ℕ → List ℕ → List ℕ
finished_by zero w d = d
finished_by (suc zero) w d = w
finished_by (suc (suc k)) w d = black

pub built : State → CrtcState → ℕ → List ℕ → List ℕ → State
built s c y w d = record s { crtc = c; place = record s.place { y = min y 1023 }; working = w; finished = d }

pub rests_many : ℕ → State → State
rests_many n s =
    built s (clocks n s.crtc) (clocks_past_frame n s.place.y s.crtc) (working_by (frames_in n s.crtc) s.working) (finished_by (frames_in n s.crtc) s.working s.finished)

join_working : (f : Bool) (k : ℕ) (w : List ℕ) → working_by k (if f then black else w) ≡ working_by ((if f then 1 else 0) + k) w
unfolding working_by
join_working true zero w = refl
join_working true (suc k) w = let e : 1 + suc k ≡ suc (suc k) = omega arith in ap (λ (i : ℕ). working_by i w) (sym e)
join_working false k w = let e : 0 + k ≡ k = omega arith in ap (λ (i : ℕ). working_by i w) (sym e)

join_finished : (f : Bool) (k : ℕ) (w d : List ℕ) → finished_by k (if f then black else w) (if f then w else d) ≡ finished_by ((if f then 1 else 0) + k) w d
unfolding finished_by
join_finished true zero w d = refl
join_finished true (suc zero) w d = refl
join_finished true (suc (suc k)) w d = let e : 1 + suc (suc k) ≡ suc (suc (suc k)) = omega arith in ap (λ (i : ℕ). finished_by i w d) (sym e)
join_finished false k w d = let e : 0 + k ≡ k = omega arith in ap (λ (i : ℕ). finished_by i w d) (sym e)

next_line : (f : Bool) (a b : ℕ) → min a 1023 ≡ min b 1023 → min (if f then 0 else a + 1) 1023 ≡ min (if f then 0 else b + 1) 1023
next_line true a b h = refl
next_line false a b h = omega (arith, h)

capped : (n a b : ℕ) (c : CrtcState) → min a 1023 ≡ min b 1023 → min (clocks_past_frame n a c) 1023 ≡ min (clocks_past_frame n b c) 1023
capped zero a b c h = h
capped (suc n) a b c h =
    capped n (if finishes_frame c then 0 else a + 1) (if finishes_frame c then 0 else b + 1) (clock_leaves c) (next_line (finishes_frame c) a b h)

line_by : (f : Bool) (y : ℕ) → min (if f then 0 else min (y + 1) 1023) 1023 ≡ min (if f then 0 else y + 1) 1023
line_by true y = refl
line_by false y = omega arith

line_small : (f : Bool) (y : ℕ) → (if f then 0 else min (y + 1) 1023) ≤ 1023
line_small true y = omega arith
line_small false y = omega arith

many_more : (f : Bool) (n : ℕ) (s : State) (c : CrtcState) →
    rests_many n (fallen_by f c s)
    ≡ built s (clocks n c) (clocks_past_frame n (if f then 0 else s.place.y + 1) c) (working_by ((if f then 1 else 0) + frames_in n c) s.working)
    (finished_by ((if f then 1 else 0) + frames_in n c) s.working s.finished)
unfolding rests_many built fallen_by left_by
many_more f n s c =
    let k = frames_in n c in
    let w = if f then black else s.working in
    let d = if f then s.working else s.finished in
    let y = clocks_past_frame n (if f then 0 else min (s.place.y + 1) 1023) c in
    let line = capped n (if f then 0 else min (s.place.y + 1) 1023) (if f then 0 else s.place.y + 1) c (line_by f s.place.y) in
    ap (λ (i : ℕ). record s { crtc = clocks n c; place = record s.place { y = i }; working = working_by k w; finished = finished_by k w d }) line
    ∙ ap (λ (v : List ℕ). built s (clocks n c) (clocks_past_frame n (if f then 0 else s.place.y + 1) c) v (finished_by k w d)) (join_working f k s.working)
    ∙ ap (λ (v : List ℕ). built s (clocks n c) (clocks_past_frame n (if f then 0 else s.place.y + 1) c) (working_by ((if f then 1 else 0) + k) s.working) v)
    (join_finished f k s.working s.finished)

pub rest_is_many : (n : ℕ) (ram : List ℕ) (size : ℕ) (font : Font) (s : State) → ClocksAtRestAreAlike → IsQuiet s → s.place.y ≤ 1023 →
    rests_many n s ≡ microseconds ram size font n s
unfolding rests_many built working_by finished_by fallen_by left_by
rest_is_many zero ram size font s law h small =
    let e : min s.place.y 1023 ≡ s.place.y = omega arith in ap (λ (i : ℕ). record s { place = record s.place { y = i } }) e
rest_is_many (suc n) ram size font s law h small =
    let f = finishes_frame s.crtc in
    let on = law s.crtc h.rest in
    let next : State = fallen_by f (clock_leaves s.crtc) s in
    sym (many_more f n s (clock_leaves s.crtc)) ∙ rest_is_many n ram size font next law (settled_on f s h on) (line_small f s.place.y)
    ∙ ap (λ (t : State). microseconds ram size font n t) (sym (falls_by ram size font s h on))

pub many_settled : (n : ℕ) (ram : List ℕ) (size : ℕ) (font : Font) (s : State) → ClocksAtRestAreAlike → IsQuiet s → IsQuiet (microseconds ram size font n s)
many_settled zero ram size font s law h = h
many_settled (suc n) ram size font s law h =
    let f = finishes_frame s.crtc in
    let on = law s.crtc h.rest in
    rw (falls_by ram size font s h on) (many_settled n ram size font (fallen_by f (clock_leaves s.crtc) s) law (settled_on f s h on))

-- the state that the code leaves, by the number of finished frames

many_of : (k n : ℕ) (s : State) → frames_in n s.crtc ≡ k →
    built s (clocks n s.crtc) (clocks_past_frame n s.place.y s.crtc) (working_by k s.working) (finished_by k s.working s.finished) ≡ rests_many n s
unfolding rests_many
many_of k n s e =
    ap (λ (i : ℕ). built s (clocks n s.crtc) (clocks_past_frame n s.place.y s.crtc) (working_by i s.working) (finished_by i s.working s.finished)) (sym e)

frame_done : State → State
frame_done t = record t { working = black; finished = t.working }

pub with_none : (n : ℕ) (s t : State) → t ≡ record s { crtc = clocks n s.crtc; place = record s.place { y = min (clocks_past_frame n s.place.y s.crtc) 1023 } } →
    frames_in n s.crtc ≡ 0 → t ≡ rests_many n s
unfolding built rests_many working_by finished_by
with_none n s t is e = is ∙ many_of 0 n s e

pub with_one : (n : ℕ) (s t u : State) → t ≡ record s { crtc = clocks n s.crtc; place = record s.place { y = min (clocks_past_frame n s.place.y s.crtc) 1023 } } →
    u ≡ record t { working = black; finished = t.working } → frames_in n s.crtc ≡ 1 → u ≡ rests_many n s
unfolding built frame_done rests_many working_by finished_by
with_one n s t u is done e = done ∙ ap frame_done is ∙ many_of 1 n s e

pub with_more : (n : ℕ) (s t u v : State) → t ≡ record s { crtc = clocks n s.crtc; place = record s.place { y = min (clocks_past_frame n s.place.y s.crtc) 1023 } } →
    u ≡ record t { working = black; finished = t.working } → v ≡ record u { working = black; finished = u.working } → (j : ℕ) → frames_in n s.crtc ≡ suc (suc j) →
    v ≡ rests_many n s
unfolding built frame_done rests_many working_by finished_by
with_more n s t u v is done again j e = again ∙ ap frame_done done ∙ ap (λ (x : State). frame_done (frame_done x)) is ∙ many_of (suc (suc j)) n s e

pub settled_too : (n : ℕ) (s t : State) → ClocksAtRestAreAlike → IsQuiet s → s.place.y ≤ 1023 → t ≡ rests_many n s → IsQuiet t
settled_too n s t law h small is = rw (is, rest_is_many n [] 0 None s law h small) (many_settled n [] 0 None s law h)
