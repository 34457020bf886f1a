use Rattle.std.proofs.Common.{arith, sym}
use Rattle.std.proofs.lemmas.List.{take_all}
use Rattle.demo_gen.proofs.front.Goals as goal

pub returns-then-image-lt256 : goal.returns-then-image-lt256
returns-then-image-lt256 c = sym (take_all 256 c.args.image.now (omega (arith, c.if-image-lt256.true)))
