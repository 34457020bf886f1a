use Rattle.std.proofs.Common.{refl}
use Rattle.frame_out.specs.Pixmap.{header}
use Rattle.frame_out.proofs.Sixteen.{sixteen_more}
use Rattle.frame_out.proofs.pixmap.Goals as goal

pub loop-i-preserved : goal.loop-i-preserved
loop-i-preserved c =
    sixteen_more header c.args.colours.now c.loop-i.bytes.items c.add_sixteen.new.bytes.items c.loop-i.i c.loop-i.invariant (c.in_ok-add_sixteen.ensures refl)
