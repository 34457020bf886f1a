use Rattle.std.proofs.Common.{◌∙◌, arith}
use Rattle.std.proofs.Math.ListN.{length-set}
use Rattle.saa5050.proofs.LetterLines.{one-more}
use Rattle.saa5050.proofs.glyphs.all_lines.Goals as goal

pub loop-i-preserved : goal.loop-i-preserved
loop-i-preserved c =
    let (count, before) = c.loop-i.invariant in (
      length-set c.loop-i.lines.items c.loop-i.i c.rounded_line.result ∙ count,
      one-more c.args.roms.now.font c.loop-i.lines.items c.loop-i.i c.rounded_line.result (omega (arith, count)) before c.rounded_line.ensures,
    )

pub returns : goal.returns
returns c =
    let (count, all) = c.loop-i.invariant in
    record { count = count; each = λ i below. all i (omega (arith, below)) }
