use Rattle.std.proofs.Common.{◌∙◌, sym}
use Rattle.raster.proofs.Micros.{fast_is, slow_is}
use Rattle.raster.proofs.raster.Raster.advance.Goals as goal

pub returns-then-is_fast : goal.returns-then-is_fast
returns-then-is_fast c =
    c.char_clock_pairs.ensures
    ∙ sym (fast_is c.args.ram.now c.args.size c.args.font.now.font c.args.n c.args.self.now (sym c.is_fast.ensures ∙ c.if-is_fast.true))

pub returns-else-is_fast : goal.returns-else-is_fast
returns-else-is_fast c =
    c.char_clocks.ensures
    ∙ sym (slow_is c.args.ram.now c.args.size c.args.font.now.font c.args.n c.args.self.now (sym c.is_fast.ensures ∙ c.if-is_fast.false))
