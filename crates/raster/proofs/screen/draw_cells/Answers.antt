use Rattle.std.proofs.Common.{◌≡◌, ◌∙◌, sym, ap, ◌+◌, ◌*◌, add-one}
use Rattle.raster.specs.Beam.{Place}
use Rattle.raster.specs.Frame.{dots_set}
use Rattle.raster.specs.Text.{Text, text_after}
use Rattle.raster.specs.CodeSteps.{cell_on, code_in, texts, cells}
use Rattle.raster.proofs.Cells.{cell_more}
use Rattle.raster.proofs.screen.draw_cells.Goals as goal

pub loop-i-preserved : goal.loop-i-preserved
loop-i-preserved c =
    let i = c.loop-i.i in
    let font = c.args.font.now.font in
    let codes = code_in c.args.bytes.now c.args.step in
    let ra = c.args.span.ra in
    let fields = c.args.span.fields in
    let old = c.args.text.now in
    let so = c.loop-i.invariant in
    let dots = c.put.new.to in
    let is : dots ≡ cells font codes ra fields old i =
    c.put.ensures.colours ∙ ap (λ (t : Text). cell_on font (codes c.from.result) ra fields t) so.0
    ∙ ap (λ k. cell_on font (codes k) ra fields (texts codes i old)) c.from.ensures in (
      c.put.ensures.state ∙ ap (λ (t : Text). text_after (codes c.from.result) t) so.0 ∙ ap (λ k. text_after (codes k) (texts codes i old)) c.from.ensures
          ∙ ap (λ k. texts codes k old) (sym (add-one i)),
      c.put-in-loop-i.ensures ∙ ap (λ x. dots_set 208 (x + 16 * i) c.place.inside.y dots c.loop-i.canvas) c.x-x.ensures.value
          ∙ ap (λ (p : Place). dots_set 208 (c.args.place.now.x + 16 * i) p.y dots c.loop-i.canvas) c.place.view_is
          ∙ cell_more font codes ra fields i c.args.place.now.x c.args.place.now.y old dots c.args.canvas.now c.loop-i.canvas so.1 is,
    )
