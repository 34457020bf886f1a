use Rattle.std.proofs.Common.{◌≡◌}
use Rattle.video_ula.specs.Pixels.{side_by_side}
use Rattle.raster.specs.Frame.{dots_set}
use Rattle.raster.specs.CodeSteps.{code_in, texts, cells}
use Rattle.raster.proofs.screen.draw_cells.Given as goal

-- the codes that are done, and their cells
abbrev pub invariant-loop-i : goal.invariant-loop-i
invariant-loop-i l =
    let codes = code_in l.bytes l.step in
    let row = cells l.font.font codes l.span.ra l.span.fields l.fn.text in
    (l.text ≡ texts codes l.i l.fn.text) × (l.canvas ≡ dots_set 208 l.place.x l.place.y (side_by_side row l.i) l.fn.canvas)
