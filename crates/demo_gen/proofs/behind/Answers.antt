use Rattle.std.proofs.Common.{arith, sym, drop, length, ◌-◌}
use Rattle.std.proofs.lemmas.List.{take_all, drop_all, length-drop}
use Rattle.demo_gen.proofs.behind.Goals as goal

pub returns-then-image-lt512 : goal.returns-then-image-lt512
returns-then-image-lt512 c = sym (drop_all 512 c.args.image.now (omega (arith, c.if-image-lt512.true)))

pub returns-else-image-lt512 : goal.returns-else-image-lt512
returns-else-image-lt512 c =
    take_all (length c.args.image.now - 512) (drop 512 c.args.image.now) (omega (arith, length-drop 512 c.args.image.now))
