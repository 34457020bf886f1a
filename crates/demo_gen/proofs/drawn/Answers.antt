use Rattle.std.proofs.Common.{rules, arith}
use Rattle.demo_gen.specs.Demo.{drawn_bytes}
use Rattle.demo_gen.proofs.WordLemmas.{next_left, none_left}
use Rattle.demo_gen.proofs.drawn.Goals as goal

pub loop-preserved : goal.loop-preserved
loop-preserved c = (
  next_left c.loop.generator c.next_byte.new.generator c.next_byte.result c.loop.bytes.items c.push.new.self.items (drawn_bytes c.args.seed)
      c.loop-test.true c.next_byte.ensures.byte c.next_byte.ensures.after (search rules) c.loop.invariant.0,
  omega (arith, c.loop-test.true),
)

pub returns : goal.returns
returns c = search (rules, none_left c.loop.generator c.loop-test.false)
