use Rattle.std.proofs.Common.{◌≡◌, arith}
use Rattle.video_ula.proofs.dots.sixteen.Goals as goal

pub returns-else-width-eq2 : goal.returns-else-width-eq2
returns-else-width-eq2 c = let three : c.args.width ≡ 3 = omega arith in rw three c.one_wide.ensures
