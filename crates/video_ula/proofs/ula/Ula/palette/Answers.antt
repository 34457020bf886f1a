use Rattle.std.proofs.Common.{true, false, arith}
use Rattle.video_ula.proofs.DotLemmas.{colour-set}
use Rattle.video_ula.proofs.ula.Ula.palette.Goals as goal

pub invariant_of-self : goal.invariant_of-self
invariant_of-self c = (
  colour-set false c.self.inside.steady c.self.inside.palette _ _ _ c.self.invariant.0 c.colour_of.ensures,
  colour-set true c.self.inside.flashed c.self.inside.palette _ _ _ c.self.invariant.1 c.colour_of-2.ensures,
  λ ready. absurd (omega (arith, ready, c.forget.ensures)),
)
