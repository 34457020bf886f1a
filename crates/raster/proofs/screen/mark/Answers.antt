use Rattle.std.proofs.Common.{◌∙◌, ap, ℕ, List, arith}
use Rattle.std.specs.Prelude.{bit_xor, slice_index, slice_set}
use Rattle.raster.proofs.Marks.{replaced-more}
use Rattle.raster.proofs.screen.mark.Goals as goal

pub loop-i-preserved : goal.loop-i-preserved
loop-i-preserved c =
    let ink = c.if-marked.ink in
    let i = c.loop-i.i in
    ap (λ (xs : List ℕ). slice_set xs i (bit_xor (slice_index xs i) ink)) c.loop-i.invariant
    ∙ replaced-more (λ colour. bit_xor colour ink) i c.args.dots.now (omega arith)
