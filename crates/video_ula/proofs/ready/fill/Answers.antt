use Rattle.std.proofs.Common.{◌∙◌, ap, ◌^◌, ◌-◌, arith}
use Rattle.std.proofs.Math.ListN.{length-set}
use Rattle.video_ula.proofs.DotLemmas.{first_of, last_of, filled_more, filled}
use Rattle.video_ula.proofs.ready.fill.Goals as goal

pub loop-byte-preserved : goal.loop-byte-preserved
loop-byte-preserved c =
    let all = c.loop-byte.invariant in
    let width = 2 ^ (3 - c.args.width) in
    let at = c.loop-byte.byte in
    let dots = c.sixteen.result in (
      (
        length-set c.loop-byte.first at (first_of dots) ∙ all.0.0,
        filled_more 0 c.args.entries.now width at c.loop-byte.first (first_of dots) (omega arith) all.0.1 (ap first_of c.sixteen.ensures),
      ),
      (
        length-set c.loop-byte.last at (last_of dots) ∙ all.1.0,
        filled_more 8 c.args.entries.now width at c.loop-byte.last (last_of dots) (omega arith) all.1.1 (ap last_of c.sixteen.ensures),
      ),
    )

pub returns-clause-first : goal.returns-clause-first
returns-clause-first c =
    filled 0 c.args.entries.now (2 ^ (3 - c.args.width)) c.loop-byte.byte c.loop-byte.first (omega arith) c.loop-byte.invariant.0.0 c.loop-byte.invariant.0.1

pub returns-clause-last : goal.returns-clause-last
returns-clause-last c =
    filled 8 c.args.entries.now (2 ^ (3 - c.args.width)) c.loop-byte.byte c.loop-byte.last (omega arith) c.loop-byte.invariant.1.0 c.loop-byte.invariant.1.1
