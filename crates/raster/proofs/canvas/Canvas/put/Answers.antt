use Rattle.std.proofs.Common.{◌∙◌, sym, ap, List, ℕ, arith}
use Rattle.raster.specs.Frame.{dots_set}
use Rattle.raster.proofs.Drawing.{all_inside}
use Rattle.raster.proofs.canvas.Canvas.put.Goals as goal

pub returns : goal.returns
returns c =
    let left = c.args.left in
    let x = c.args.x in
    let y = c.args.y in
    let down = c.from.ensures in
    let along = c.from-2.ensures in
    let size = c.put.ensures.size in
    c.put.ensures.put
    ∙ sym (all_inside left x y _ c.args.dots.now c.self.inside.frame c.requires.along.0 c.requires.along.1 c.requires.down.0 c.requires.down.1
    (omega (arith, down, along)) (omega (arith, down, along, size)))
    ∙ ap (λ (frame : List ℕ). dots_set left x y c.args.dots.now frame) c.self.view_is
