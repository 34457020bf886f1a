use Rattle.std.proofs.Common.{Bool, List, ap, bit_and, eqb, replicate, w8}
use Rattle.std.proofs.lemmas.Simd.{tops_compared}
use Rattle.std.specs.Simd.Lanes.{zip2, sel_l}
use Rattle.frame_out.proofs.samples.Goals as goal

pub returns : goal.returns
returns c =
    ap (λ (ms : List Bool). sel_l ms (replicate 16 255) (replicate 16 0)) (tops_compared w8 eqb (zip2 bit_and c.args.colours c.args.bits) c.args.bits)
