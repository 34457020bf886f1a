use Rattle.std.proofs.Common.{arith, inl, inr}
use Rattle.crtc6845.proofs.Rests.{calm_always, calm_within}
use Rattle.crtc6845.proofs.crtc.Crtc.calm_at_rest.Goals as goal

pub returns-then-left-gt0 : goal.returns-then-left-gt0
returns-then-left-gt0 c = λ k h. calm_always c.args.self.now c.requires (omega arith) (omega arith) k

pub returns-then-left-gt0-2 : goal.returns-then-left-gt0-2
returns-then-left-gt0-2 c = λ k h. calm_within c.args.self.now c.requires (λ e. omega (arith, e)) k (inl (omega arith))

pub returns-else-left-gt0-2 : goal.returns-else-left-gt0-2
returns-else-left-gt0-2 c = λ k h. calm_within c.args.self.now c.requires (λ e. omega (arith, e)) k (inr (omega arith))
