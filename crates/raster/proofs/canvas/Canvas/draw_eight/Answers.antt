use Rattle.std.proofs.Common.{◌∙◌, sym}
use Rattle.raster.proofs.Drawing.{eight_outside}
use Rattle.raster.proofs.canvas.Canvas.draw_eight.Goals as goal

pub returns-else-is_in_frame : goal.returns-else-is_in_frame
returns-else-is_in_frame c =
    eight_outside c.args.left c.args.x c.args.y c.args.dots.now c.args.self.now c.requires.left.1 c.requires.x c.requires.eight
    (sym c.is_in_frame.ensures ∙ c.if-is_in_frame.false)
