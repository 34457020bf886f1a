use Rattle.std.proofs.Common.{arith}
use Rattle.crtc6845.proofs.CalmClocks.{stays_in_sync}
use Rattle.crtc6845.proofs.crtc.Crtc.calm.Goals as goal

pub returns-else-is_quiet : goal.returns-else-is_quiet
returns-else-is_quiet c = λ k h. stays_in_sync k c.args.self.now c.calm_number.ensures.fits (omega (arith, c.calm_number.ensures.value))
