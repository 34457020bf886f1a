use Rattle.std.proofs.Common.{◌≡◌, ◌∙◌, sym, ap, subst, List, ℕ, ◌+◌, ◌*◌, ◌≤◌, Bool}
use Rattle.beeb_bits.specs.Bits.{bit}
use Rattle.video_ula.specs.Pixels.{dots_of, row_colours}
use Rattle.raster.specs.Frame.{dots_set}
use Rattle.raster.specs.CodeSteps.{wide}
use Rattle.raster.proofs.Drawing.{put_inside}
use Rattle.raster.proofs.Spans.{row_colours_long}
use Rattle.raster.proofs.canvas.Canvas.draw_row.Goals as goal

pub returns-clause-drawn : goal.returns-clause-drawn
returns-clause-drawn c = λ ready.
    let left = c.args.left in
    let x = c.args.place.now.x in
    let y = c.args.place.now.y in
    let row = λ (k : ℕ). row_colours c.args.ula.now c.args.bytes.now c.args.step k in
    let width : c.wide.result ≡ dots_of c.args.ula.now.control =
    c.wide.ensures ∙ ap (λ (b : Bool). wide b) (c.bit.ensures ∙ ap (λ (k : ℕ). bit k 4) c.mode.ensures) in
    let count = c.from.result * c.wide.result in
    let many : count ≡ c.args.n * dots_of c.args.ula.now.control = ap (λ k. k * c.wide.result) c.from.ensures ∙ ap (λ k. c.args.n * k) width in
    let fits : x + count ≤ left + 640 = subst (λ (k : ℕ). x + k ≤ left + 640) (sym many) c.requires.along.1 in
    put_inside left x y c.dot_at-at.result count (row c.from-2.result) c.self.inside.frame c.put_row.new.self
    (row_colours_long c.args.ula.now c.args.bytes.now c.args.step c.from-2.result ∙ ap (λ k. k * dots_of c.args.ula.now.control) c.from-2.ensures
    ∙ sym many)
    c.requires.along.0 fits c.requires.down.0 c.requires.down.1 c.dot_at-at.ensures c.put_row.ensures.size
    (c.put_row.ensures.put ready)
    ∙ ap (λ (k : ℕ). dots_set left x y (row k) c.self.inside.frame) c.from-2.ensures ∙ ap (λ (frame : List ℕ). dots_set left x y (row c.args.n) frame) c.self.view_is
