-- Character clocks, one after another, and microseconds by them.
use Rattle.std.proofs.Common.{◌≡◌, ◌∙◌, sym, ap, refl, ℕ, zero, suc, ◌+◌, ◌*◌, Bool, true, false, List, arith}
use Rattle.std.specs.Prelude.{if◌then◌else◌}
use Rattle.beeb_bits.specs.Bits.{bit}
use Rattle.crtc6845.specs.declared.Beam.{Beam}
use Rattle.crtc6845.specs.State.{State as CrtcState}
use Rattle.crtc6845.specs.Clock.{beam_of, clock_leaves}
use Rattle.crtc6845.specs.Laws.{clocks}
use Rattle.video_ula.specs.State.{State as UlaState}
use Rattle.saa5050.specs.Shapes.{Font}
use Rattle.raster.specs.State.{State}
use Rattle.raster.specs.Clock.{begin_leaves, show_leaves, char_clock_leaves, microsecond, microseconds}
use Rattle.raster.specs.CodeSteps.{char_clocks}

pub clocks_behind : (n : ℕ) (c : CrtcState) → clocks (suc n) c ≡ clock_leaves (clocks n c)
clocks_behind zero c = refl
clocks_behind (suc n) c = clocks_behind n (clock_leaves c)

-- the number of clocks of the 6845 in a microsecond
abbrev pub rate_by : Bool → ℕ
rate_by b = if b then 2 else 1

module _ (ram : List ℕ) (size : ℕ) (font : Font) where
  -- what is shown changes nothing of these
  pub show_place : (beam : Beam) (t : State) → (show_leaves ram size font beam t).place ≡ t.place
  show_place beam t = grind arith

  pub show_cursor : (beam : Beam) (t : State) → (show_leaves ram size font beam t).cursor ≡ t.cursor
  show_cursor beam t = grind arith

  pub show_crtc : (beam : Beam) (t : State) → (show_leaves ram size font beam t).crtc ≡ t.crtc
  show_crtc beam t = grind arith

  pub show_ula : (beam : Beam) (t : State) → (show_leaves ram size font beam t).ula ≡ t.ula
  show_ula beam t = grind arith

  pub char_crtc : (s : State) → (char_clock_leaves ram size font s).crtc ≡ clock_leaves s.crtc
  unfolding char_clock_leaves
  char_crtc s = show_crtc (beam_of s.crtc) (begin_leaves (beam_of s.crtc) (record s { crtc = clock_leaves s.crtc }))

  pub char_ula : (s : State) → (char_clock_leaves ram size font s).ula ≡ s.ula
  unfolding char_clock_leaves
  char_ula s = show_ula (beam_of s.crtc) (begin_leaves (beam_of s.crtc) (record s { crtc = clock_leaves s.crtc }))

  -- one more clock, and many more
  pub chars_behind : (n : ℕ) (s : State) → char_clocks ram size font (suc n) s ≡ char_clock_leaves ram size font (char_clocks ram size font n s)
  chars_behind zero s = refl
  chars_behind (suc n) s = chars_behind n (char_clock_leaves ram size font s)

  pub chars_more : (n m : ℕ) (s : State) → char_clocks ram size font n (char_clocks ram size font m s) ≡ char_clocks ram size font (m + n) s
  chars_more n zero s = let z : 0 + n ≡ n = omega arith in rw z refl
  chars_more n (suc m) s = let z : suc m + n ≡ suc (m + n) = omega arith in rw z (chars_more n m (char_clock_leaves ram size font s))

  pub chars_crtc : (n : ℕ) (s : State) → (char_clocks ram size font n s).crtc ≡ clocks n s.crtc
  chars_crtc zero s = refl
  chars_crtc (suc n) s = chars_crtc n (char_clock_leaves ram size font s) ∙ ap (λ (c : CrtcState). clocks n c) (char_crtc s)

  pub chars_ula : (n : ℕ) (s : State) → (char_clocks ram size font n s).ula ≡ s.ula
  chars_ula zero s = refl
  chars_ula (suc n) s = chars_ula n (char_clock_leaves ram size font s) ∙ char_ula s

  micro_is : (b : Bool) (s : State) → bit s.ula.control 4 ≡ b → microsecond ram size font s ≡ char_clocks ram size font (rate_by b) s
  micro_is true s e = rw e refl
  micro_is false s e = rw e refl

  pub micros_are : (n : ℕ) (b : Bool) (s : State) → bit s.ula.control 4 ≡ b → microseconds ram size font n s ≡ char_clocks ram size font (n * rate_by b) s
  micros_are zero b s e = let z : 0 * rate_by b ≡ 0 = omega arith in rw z refl
  micros_are (suc n) b s e =
      let next = char_clocks ram size font (rate_by b) s in
      let z : rate_by b + n * rate_by b ≡ suc n * rate_by b = grind arith in
      ap (λ (t : State). microseconds ram size font n t) (micro_is b s e)
      ∙ micros_are n b next (ap (λ (u : UlaState). bit u.control 4) (chars_ula (rate_by b) s) ∙ e)
      ∙ chars_more (n * rate_by b) (rate_by b) s ∙ ap (λ k. char_clocks ram size font k s) z

  -- one clock each at 1 MHz, and two each at 2 MHz
  pub slow_is : (n : ℕ) (s : State) → bit s.ula.control 4 ≡ false → microseconds ram size font n s ≡ char_clocks ram size font n s
  slow_is n s off = let z : n * 1 ≡ n = omega arith in micros_are n false s off ∙ ap (λ k. char_clocks ram size font k s) z

  pub fast_is : (n : ℕ) (s : State) → bit s.ula.control 4 ≡ true → microseconds ram size font n s ≡ char_clocks ram size font n (char_clocks ram size font n s)
  fast_is n s on = let z : n * 2 ≡ n + n = omega arith in micros_are n true s on ∙ ap (λ k. char_clocks ram size font k s) z ∙ sym (chars_more n n s)
