use Rattle.std.proofs.Common.{◌≡◌, arith}
use Rattle.cmd_outcome.proofs.frames.push_frames.Goals as goal

pub returns : goal.returns
returns c =
    let all : c.loop-number.number ≡ c.args.count = omega (arith, c.loop-number.invariant.1, c.loop-number-test.false) in rw (← all) c.loop-number.invariant.0
