use Rattle.std.proofs.Common.{◌≡◌, ◌∙◌, sym, ap, ℕ, ◌-◌, List, take, drop, length, false, arith}
use Rattle.std.proofs.lemmas.List.{take_all, length-drop}
use Rattle.beeb_bits.specs.Bits.{bit}
use Rattle.video_ula.specs.Pixels.{side_by_side}
use Rattle.raster.specs.Frame.{dots_set}
use Rattle.raster.specs.State.{State}
use Rattle.raster.specs.CodeSteps.{code_in, texts, cells}
use Rattle.raster.proofs.Spans.{fewer}
use Rattle.raster.proofs.Cells.{cells_drawn}
use Rattle.raster.proofs.screen.Screen.draw_text.Goals as goal

rest_of : (at : ℕ) (ram : List ℕ) → take (length ram - at) (drop at ram) ≡ drop at ram
rest_of at ram = let l = length-drop at ram in take_all (length ram - at) (drop at ram) (omega (arith, l))

pub returns-clause-drawn : goal.returns-clause-drawn
returns-clause-drawn c =
    let s = c.args.self.now in
    let ram = c.args.ram.now in
    let font = c.args.font.now.font in
    let span = c.args.span in
    let bytes = c.bytes_from-bytes.result in
    let most = c.bytes_from-bytes.ensures.most in
    let inside = c.inside-n.ensures.most in
    let h = fewer span bytes.count c.args.n s (omega (arith, most, inside)) c.requires.plain in
    let off : bit s.ula.control 4 ≡ false =
    ap (λ (t : State). bit t.ula.control 4) (sym c.self.view_is) ∙ ap (λ (k : ℕ). bit k 4) (sym c.mode.ensures) ∙ sym c.bit.ensures ∙ c.if-bit.false in
    let left = c.draw_cells.ensures.text ∙ ap (λ (part : List ℕ). texts (code_in part bytes.step) bytes.count c.self.inside.text) (rest_of bytes.at ram)
    ∙ ap (λ (t : State). texts (code_in (drop bytes.at ram) bytes.step) bytes.count t.text) c.self.view_is in
    let drawn = c.draw_cells.ensures.drawn
    ∙ ap (λ (part : List ℕ). dots_set 208 c.self.inside.place.x c.self.inside.place.y
    (side_by_side (cells font (code_in part bytes.step) span.ra span.fields c.self.inside.text) bytes.count) c.self.inside.working)
    (rest_of bytes.at ram)
    ∙ ap (λ (t : State). dots_set 208 t.place.x t.place.y (side_by_side (cells font (code_in (drop bytes.at ram) bytes.step) span.ra span.fields t.text) bytes.count) t.working) c.self.view_is in
    ap (λ (t : State). record t { text = c.draw_cells.new.text; working = c.draw_cells.new.canvas }) c.self.view_is
    ∙ cells_drawn ram c.args.size font span bytes.count bytes.at bytes.step s c.draw_cells.new.text c.draw_cells.new.canvas h c.requires.shown c.requires.cells off c.requires.counted
    c.bytes_from-bytes.ensures.apart left drawn
