use Rattle.std.proofs.Common.{◌≡◌, ◌∙◌, sym, ap, subst, List, ℕ, ◌+◌, ◌*◌, ◌≤◌, replicate}
use Rattle.std.proofs.lemmas.List.{length-replicate}
use Rattle.raster.specs.Frame.{dots_set}
use Rattle.raster.specs.CodeSteps.{wide}
use Rattle.raster.proofs.Drawing.{put_inside}
use Rattle.raster.proofs.canvas.Canvas.draw_black.Goals as goal

pub returns : goal.returns
returns c =
    let left = c.args.left in
    let x = c.args.place.now.x in
    let y = c.args.place.now.y in
    let count = c.from.result * c.wide.result in
    let many : count ≡ c.args.n * wide c.args.narrow = ap (λ k. k * c.wide.result) c.from.ensures ∙ ap (λ k. c.args.n * k) c.wide.ensures in
    let fits : x + count ≤ left + 640 = subst (λ (k : ℕ). x + k ≤ left + 640) (sym many) c.requires.along.1 in
    put_inside left x y c.dot_at-at.result count (replicate count 0) c.self.inside.frame _ (length-replicate count 0) c.requires.along.0 fits
    c.requires.down.0 c.requires.down.1 c.dot_at-at.ensures c.blacken.ensures.size c.blacken.ensures.put
    ∙ ap (λ (k : ℕ). dots_set left x y (replicate k 0) c.self.inside.frame) many
    ∙ ap (λ (frame : List ℕ). dots_set left x y (replicate (c.args.n * wide c.args.narrow) 0) frame) c.self.view_is
