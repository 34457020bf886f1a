use Rattle.std.proofs.Common.{◌≡◌, ℕ, ◌+◌, ◌-◌, ◌∙◌, ap, arith}
use Rattle.std.specs.Prelude.{slice_index}
use Rattle.std.proofs.Math.ListN.{length-set}
use Rattle.host_bus.proofs.Ram.{one_more}
use Rattle.host_bus.proofs.board.cover.Goals as goal

pub loop-i-preserved : goal.loop-i-preserved
loop-i-preserved c =
    let (length, covered) = c.loop-i.invariant in
    let here : c.loop-i.i ≡ 49152 + c.loop-i.i - 49152 = omega arith in
    rw c.from.ensures (
      length-set c.loop-i.shown _ c.os.result ∙ length,
      one_more c.os.result covered (omega (arith, length)) (c.os.ensures ∙ ap (λ (k : ℕ). slice_index c.args.roms.now.os k) here),
    )
