-- The steps until a raster is quiet.
use Rattle.std.proofs.Common.{◌≡◌, ◌∙◌, sym, ap, refl, ℕ, ◌+◌, Bool, true, false, min, List}
use Rattle.std.specs.Prelude.{if◌then◌else◌}
use Rattle.beeb_bits.specs.Bits.{bit}
use Rattle.crtc6845.specs.declared.Beam.{Beam}
use Rattle.crtc6845.specs.State.{State as CrtcState}
use Rattle.crtc6845.specs.Clock.{begins_horizontal_sync, finishes_frame, beam_of, clock_leaves}
use Rattle.crtc6845.specs.CodeSteps.{is_quiet, quiet_beam}
use Rattle.crtc6845.specs.Rests.{RestsOn}
use Rattle.video_ula.specs.Pixels.{dots_of}
use Rattle.saa5050.specs.Shapes.{Font}
use Rattle.raster.specs.Beam.{Cursor, cursor_past}
use Rattle.raster.specs.State.{State, first_cursor}
use Rattle.raster.specs.Clock.{begin_leaves, show_leaves, pass_leaves}
use Rattle.raster.specs.CodeQuiet.{IsQuiet}

pub sixteen : (control : ℕ) → bit control 4 ≡ false → dots_of control ≡ 16
sixteen control h = rw h refl

pub one_clock : (b : Bool) (x y : State) → b ≡ false → y ≡ (if b then x else y)
one_clock b x y h = rw h refl

pub cursor_far : (c : Cursor) → c ≡ first_cursor → c ≡ cursor_past false c
cursor_far c h = rw h refl

-- the beam's place in its line after a character clock
abbrev along : CrtcState → ℕ → ℕ → ℕ
along chip x dots = min ((if begins_horizontal_sync chip then 0 else x) + dots) 4095

-- after a character clock of a quiet 6845 the raster is quiet, if the beam is at the same place as
-- before
left_settled : (s : State) (chip : CrtcState) (finishes : Bool) (left : State)
    → left ≡ pass_leaves (quiet_beam finishes chip) (begin_leaves (quiet_beam finishes chip) (record s { crtc = chip })) →
    is_quiet chip ≡ true → bit left.ula.control 4 ≡ false → left.cursor ≡ first_cursor → left.place.x ≡ s.place.x → IsQuiet left
left_settled s chip finishes left is rest clock far back =
    let single : bit s.ula.control 4 ≡ false = ap (λ (s : State). bit s.ula.control 4) (sym is) ∙ clock in
    let x : left.place.x ≡ along chip left.place.x 16 =
    ap (λ (s : State). s.place.x) is ∙ ap (along chip s.place.x) (sixteen s.ula.control single) ∙ ap (λ x. along chip x 16) (sym back) in
    record {
      rest = ap (λ (s : State). is_quiet s.crtc) is ∙ rest;
      clock = clock;
      x = x ∙ ap (λ (s : State). along s.crtc left.place.x 16) (sym is);
      cursor = far;
      text = ap (λ (s : State). s.text) is;
    }

pub settles : (ram : List ℕ) (size : ℕ) (font : Font) (s left : State) (chip : CrtcState) (beam : Beam) → RestsOn s.crtc → beam ≡ beam_of s.crtc → chip ≡ clock_leaves s.crtc →
    left ≡ pass_leaves beam (show_leaves ram size font beam (begin_leaves beam (record s { crtc = chip }))) →
    bit left.ula.control 4 ≡ false → left.cursor ≡ first_cursor → left.place.x ≡ s.place.x → IsQuiet left
settles ram size font s left chip beam on told after done =
    let next = clock_leaves s.crtc in
    let by = λ (b : Beam) (c : CrtcState). pass_leaves b (show_leaves ram size font b (begin_leaves b (record s { crtc = c }))) in
    left_settled s next (finishes_frame s.crtc) left (done ∙ ap (λ (c : CrtcState). by beam c) after ∙ ap (λ (b : Beam). by b next) (told ∙ on.told)) on.rest
