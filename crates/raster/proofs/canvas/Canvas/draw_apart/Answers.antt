use Rattle.std.proofs.Common.{rules, ◌≡◌, ◌∙◌, sym, ap, ℕ, List, ◌+◌, length, take, drop}
use Rattle.raster.specs.Frame.{dots_set}
use Rattle.raster.proofs.Drawing.{dots_set-append, halves}
use Rattle.raster.proofs.canvas.Canvas.draw_apart.Goals as goal

pub returns : goal.returns
returns c =
    let left = c.args.left in
    let x = c.args.x in
    let y = c.args.y in
    let old = c.args.self.now in
    let first = take 8 c.args.dots.now in
    let last = take 8 (drop 8 c.args.dots.now) in
    let eight : length first ≡ 8 = search rules in
    let sixteen : length c.args.dots.now ≡ 16 = search rules in
    c.draw_eight-2.ensures ∙ ap (λ (frame : List ℕ). dots_set left (x + 8) y last frame) c.draw_eight.ensures
    ∙ ap (λ (n : ℕ). dots_set left (x + n) y last (dots_set left x y first old)) (sym eight)
    ∙ sym (dots_set-append left x y first last old)
    ∙ ap (λ (dots : List ℕ). dots_set left x y dots old) (halves c.args.dots.now sixteen)
