-- Frames and the cursor, clock by clock.
use Rattle.std.proofs.Common.{◌≡◌, ◌∙◌, sym, ap, refl, ℕ, zero, suc, ◌%◌, ◌==◌, ◌&&◌, Bool, true, false, List, add-one, arith}
use Rattle.std.specs.Prelude.{nat_le, slice_index, if◌then◌else◌}
use Rattle.crtc6845.specs.declared.Beam.{Beam}
use Rattle.crtc6845.specs.State as chip
use Rattle.crtc6845.specs.Registers.{cursor_address}
use Rattle.crtc6845.specs.Clock.{beam_of, blinks_on, clock_leaves, start_leaves, count_leaves}
use Rattle.crtc6845.specs.Laws.{clocks, tells}
use Rattle.crtc6845.specs.Pictures.{VerticalSyncComesInEachFrame, NoSyncBeyondTheRows, ShownAddressesCount}
use Rattle.saa5050.specs.Shapes.{Font}
use Rattle.raster.specs.Beam.{byte_address}
use Rattle.raster.specs.State.{State}
use Rattle.raster.specs.Clock.{begin_leaves, show_leaves, char_clock_leaves}
use Rattle.law_machines.specs.Frames.{char_clocks, FramesFinish, CursorStands}

-- The drawing of a clock changes neither the finished frame nor the 6845.
record Draws (s x : State) : Type 0 where
  pub finished : x.finished ≡ s.finished
  pub crtc : x.crtc ≡ s.crtc

choice : (b : Bool) {s x y : State} → Draws s x → Draws s y → Draws s (if b then x else y)
choice true p q = p
choice false p q = q

draws : (ram : List ℕ) (size : ℕ) (font : Font) (beam : Beam) (s : State) → Draws s (show_leaves ram size font beam s)
draws ram size font beam s =
    let byte = slice_index ram (byte_address beam.ma beam.ra size) in
    choice beam.shown
    (choice _
    (record { finished = refl; crtc = refl }) (record { finished = refl; crtc = refl }))
    (record { finished = refl; crtc = refl })

each_clock : (ram : List ℕ) (size : ℕ) (font : Font) (s : State) →
    (char_clock_leaves ram size font s).finished ≡ (if (beam_of s.crtc).frame_end then s.working else s.finished)
unfolding char_clock_leaves
each_clock ram size font s = (draws ram size font (beam_of s.crtc) (begin_leaves (beam_of s.crtc) (record s { crtc = clock_leaves s.crtc }))).finished

one_clock : (ram : List ℕ) (size : ℕ) (font : Font) (s : State) → (char_clock_leaves ram size font s).crtc ≡ clock_leaves s.crtc
unfolding char_clock_leaves
one_clock ram size font s = (draws ram size font (beam_of s.crtc) (begin_leaves (beam_of s.crtc) (record s { crtc = clock_leaves s.crtc }))).crtc

clocks_behind : (n : ℕ) (c : chip.State) → clocks n (clock_leaves c) ≡ clock_leaves (clocks n c)
clocks_behind zero c = refl
clocks_behind (suc n) c = clocks_behind n _

-- the 6845 does not depend on the raster
by_itself : (ram : ℕ → List ℕ) (size : ℕ → ℕ) (font : Font) (n : ℕ) (s : State) → (char_clocks ram size font n s).crtc ≡ clocks n s.crtc
by_itself ram size font zero s = refl
by_itself ram size font (suc n) s =
    one_clock (ram n) (size n) font _ ∙ ap clock_leaves (by_itself ram size font n s) ∙ sym (clocks_behind n s.crtc)

next_frame : (ram : ℕ → List ℕ) (size : ℕ → ℕ) (font : Font) (s : State) (n : ℕ) {ends : Bool} → (tells n s.crtc).frame_end ≡ ends →
    (char_clocks ram size font (suc n) s).finished
    ≡ (if ends then (char_clocks ram size font n s).working else (char_clocks ram size font n s).finished)
next_frame ram size font s n is =
    let x = char_clocks ram size font n s in
    each_clock (ram n) (size n) font x
    ∙ ap (λ b. if b then x.working else x.finished) (ap (λ c. (beam_of c).frame_end) (by_itself ram size font n s) ∙ is)

never_ends : (ram : ℕ → List ℕ) (size : ℕ → ℕ) (font : Font) (s : State) (n : ℕ) → ((k : ℕ) → (tells k s.crtc).frame_end ≡ false) →
    (char_clocks ram size font n s).finished ≡ s.finished
never_ends ram size font s zero none = refl
never_ends ram size font s (suc n) none = next_frame ram size font s n (none n) ∙ never_ends ram size font s n none

pub frames_finish : VerticalSyncComesInEachFrame → NoSyncBeyondTheRows → FramesFinish
frames_finish comes none = record {
  each = each_clock;
  in_time = λ ram size font s n bits sync begins early.
      ap (λ k. (char_clocks ram size font k s).finished) (add-one n) ∙ next_frame ram size font s n (comes s.crtc n bits sync begins early);
  never = λ ram size font s n bits beyond begins. never_ends ram size font s n (λ k. none s.crtc k bits beyond begins);
}

-- ---- The cursor.

start_keeps : (c : chip.State) → (start_leaves c).registers ≡ c.registers
start_keeps c = grind arith

count_keeps : (c : chip.State) → (count_leaves c).registers ≡ c.registers
count_keeps c = grind arith

keeps : (n : ℕ) (c : chip.State) → (clocks n c).registers ≡ c.registers
keeps zero c = refl
keeps (suc n) c = keeps n _ ∙ count_keeps _ ∙ start_keeps c

grouped : (a b c d e : Bool) → (a && b && c && d && e) ≡ (a && (b && (c && (d && e))))
grouped false b c d e = refl
grouped true false c d e = refl
grouped true true false d e = refl
grouped true true true false e = refl
grouped true true true true e = refl

-- the cursor, by the 6845's outputs
told_cursor : {r : chip.Registers} (x : chip.State) → (start_leaves x).registers ≡ r →
    (beam_of x).cursor
    ≡ ((beam_of x).shown && (((beam_of x).ma == cursor_address r) && (nat_le (r.cursor_start % 32) (beam_of x).ra && (nat_le (beam_of x).ra r.cursor_end
    && blinks_on r.cursor_start (beam_of x).fields))))
told_cursor x is =
    grouped (beam_of x).shown ((beam_of x).ma == cursor_address (start_leaves x).registers) (nat_le ((start_leaves x).registers.cursor_start % 32) (beam_of x).ra)
    (nat_le (beam_of x).ra (start_leaves x).registers.cursor_end) (blinks_on (start_leaves x).registers.cursor_start (beam_of x).fields)
    ∙ ap (λ (q : chip.Registers). (beam_of x).shown && (((beam_of x).ma == cursor_address q) && (nat_le (q.cursor_start % 32) (beam_of x).ra && (nat_le (beam_of x).ra q.cursor_end
    && blinks_on q.cursor_start (beam_of x).fields)))) is

-- the address counts if the character is shown
where_shown : (is : Bool) {ma place : ℕ} (at : ℕ) (rest : Bool) → (is ≡ true → ma ≡ place) → (is && ((ma == at) && rest)) ≡ (is && ((place == at) && rest))
where_shown true at rest same = rw (same refl)
where_shown false at rest same = refl

pub cursor_stands : ShownAddressesCount → CursorStands
cursor_stands count c n bits begins base =
    let x = clocks n c in
    let r = c.registers in
    told_cursor x (start_keeps x ∙ keeps n c)
    ∙ where_shown _ _
    _
    (λ is. count c n bits begins base is)
