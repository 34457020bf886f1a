use Rattle.std.proofs.Common.{◌∙◌, ◌+◌, sym, ap, arith}
use Rattle.sn76489.specs.Clock.{clock_leaves, clocks}
use Rattle.sn76489.proofs.Runs.{no_clocks, one_clock_more}
use Rattle.sn76489.proofs.Resting.{clocks_behind}
use Rattle.sn76489.proofs.chip.Sound.advance.Goals as goal

pub loop-done-init : goal.loop-done-init
loop-done-init c = (sym (no_clocks c.args.self.now), omega arith)

pub loop-done-preserved : goal.loop-done-preserved
loop-done-preserved c = (
  c.rest-done.ensures.clocks ∙ ap (clocks c.rest-done.result) c.loop-done.invariant.0
      ∙ sym (clocks_behind c.loop-done.done c.rest-done.result c.args.self.now),
  omega (arith, c.rest-done.ensures.bound, c.loop-done.invariant.1),
)

pub loop-done-preserved-then-done-n : goal.loop-done-preserved-then-done-n
loop-done-preserved-then-done-n c = (
  c.clock.ensures
      ∙ ap clock_leaves (c.rest-done.ensures.clocks ∙ ap (clocks c.rest-done.result) c.loop-done.invariant.0
      ∙ sym (clocks_behind c.loop-done.done c.rest-done.result c.args.self.now))
      ∙ sym (one_clock_more (c.loop-done.done + c.rest-done.result) c.args.self.now),
  omega (arith, c.if-done-n.true),
)
