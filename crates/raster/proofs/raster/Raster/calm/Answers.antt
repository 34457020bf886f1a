use Rattle.std.proofs.Common.{◌∙◌, sym, true, false, arith}
use Rattle.raster.proofs.ReadBytes.{calm_micro}
use Rattle.raster.proofs.raster.Raster.calm.Goals as goal

pub returns-then-is_fast : goal.returns-then-is_fast
returns-then-is_fast c = calm_micro _ c.calm_clocks-calm.result true c.args.self.now (sym c.is_fast.ensures ∙ c.if-is_fast.true) c.calm_clocks-calm.ensures (omega arith)

pub returns-else-is_fast : goal.returns-else-is_fast
returns-else-is_fast c = calm_micro c.calm_clocks-calm.result c.calm_clocks-calm.result false c.args.self.now (sym c.is_fast.ensures ∙ c.if-is_fast.false) c.calm_clocks-calm.ensures (omega arith)
