use Rattle.std.proofs.Common.{refl}
use Rattle.raster.proofs.screen.Screen.draw_code.Goals as goal

pub returns : goal.returns
returns c = rw (← c.self.view_is, c.put.ensures.state, c.draw.ensures, c.bit.ensures, c.mark.ensures, c.put.ensures.colours, c.mode.ensures) refl
