use Rattle.std.proofs.Common.{◌∙◌, ◌+◌, ◌*◌, arith}
use Rattle.std.specs.Prelude.{slice_index}
use Rattle.video_ula.specs.Colours.{sixteen_at}
use Rattle.video_ula.proofs.Rows.{row_more}
use Rattle.video_ula.proofs.ready.Ready.wide_row.Goals as goal

pub loop-i-preserved : goal.loop-i-preserved
loop-i-preserved c =
    let i = c.loop-i.i in
    row_more (λ k. sixteen_at c.args.self.now (slice_index c.args.bytes.now (k * c.args.step))) i (16 * i) _
    (16 * (i + 1)) c.loop-i.to _ c.loop-i.invariant (omega arith) (c.put_sixteen.ensures ∙ c.dots-dots.ensures.dots) (omega arith)
