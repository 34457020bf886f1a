-- A character clock, by its parts.
use Rattle.std.proofs.Common.{◌≡◌, ◌∙◌, sym, ap, refl, ℕ, ◌%◌, Bool, true, List}
use Rattle.std.specs.Prelude.{slice_index, if◌then◌else◌}
use Rattle.beeb_bits.specs.Bits.{bit}
use Rattle.crtc6845.specs.declared.Beam.{Beam}
use Rattle.crtc6845.specs.State.{State as CrtcState}
use Rattle.crtc6845.specs.Clock.{beam_of, clock_leaves}
use Rattle.saa5050.specs.Shapes.{Font}
use Rattle.raster.specs.Beam.{byte_address, is_marked}
use Rattle.raster.specs.Text.{cell_of}
use Rattle.raster.specs.State.{State}
use Rattle.raster.specs.Clock.{tell_leaves, char_clock_leaves, draw_byte_leaves, draw_cell_leaves, draw_leaves}
use Rattle.raster.specs.CodeSteps.{cell_on, cell_drawn_on}

pub told_after : (ram : List ℕ) (size : ℕ) (font : Font) (inside s : State) (beam : Beam) (chip : CrtcState) (left : State) → inside ≡ s →
    beam ≡ beam_of inside.crtc → chip ≡ clock_leaves inside.crtc → left ≡ tell_leaves ram size font beam (record inside { crtc = chip }) → left ≡ char_clock_leaves ram size font s
unfolding char_clock_leaves
told_after ram size font inside s beam chip left same is after done =
    done ∙ ap (λ (k : CrtcState). tell_leaves ram size font beam (record inside { crtc = k })) after
    ∙ ap (λ (b : Beam). tell_leaves ram size font b (record inside { crtc = clock_leaves inside.crtc })) is
    ∙ ap (λ (s : State). tell_leaves ram size font (beam_of s.crtc) (record s { crtc = clock_leaves s.crtc })) same

cells : (font : Font) (code : ℕ) (beam : Beam) (s : State) →
    cell_drawn_on font code beam.ra beam.fields (is_marked s.ula.control beam.cursor s.cursor) s ≡ draw_cell_leaves font beam code s
unfolding cell_on cell_of
cells font code beam s = refl

pick : (b : Bool) (x y : State) → b ≡ true → x ≡ (if b then x else y)
pick b x y is = rw is refl

pub drawn_cell : (ram : List ℕ) (size : ℕ) (font : Font) (beam : Beam) (inside s left : State) (at : ℕ) (marked : Bool) → inside ≡ s → bit inside.ula.control 1 ≡ true →
    at ≡ byte_address beam.ma beam.ra size → marked ≡ is_marked inside.ula.control beam.cursor inside.cursor →
    left ≡ cell_drawn_on font (slice_index ram at % 128) beam.ra beam.fields marked s → left ≡ draw_leaves ram size font beam s
drawn_cell ram size font beam inside s left at marked same on place mark done =
    let byte = slice_index ram (byte_address beam.ma beam.ra size) in
    done ∙ ap (λ (k : ℕ). cell_drawn_on font (slice_index ram k % 128) beam.ra beam.fields marked s) place
    ∙ ap (λ (m : Bool). cell_drawn_on font (byte % 128) beam.ra beam.fields m s) (mark ∙ ap (λ (s : State). is_marked s.ula.control beam.cursor s.cursor) same)
    ∙ cells font (byte % 128) beam s
    ∙ pick (bit s.ula.control 1) (draw_cell_leaves font beam (byte % 128) s) (draw_byte_leaves beam byte s) (ap (λ (s : State). bit s.ula.control 1) (sym same) ∙ on)
