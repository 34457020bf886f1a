use Rattle.std.proofs.Common.{sym, ◌∙◌}
use Rattle.saa5050.proofs.Usual.{usual_line}
use Rattle.saa5050.proofs.dots.half_dots.Goals as goal

pub returns-else-is_special : goal.returns-else-is_special
returns-else-is_special c =
    usual_line c.line.result c.args.font.now.font c.args.code c.args.ra c.args.bottom c.args.fields c.args.style.now (sym c.is_special.ensures ∙ c.if-is_special.false)
    c.line.ensures
