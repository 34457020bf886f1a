use Rattle.std.proofs.Common.{rules, arith, ◌≡◌, ◌∙◌, sym, ap}
use Rattle.tube_cell.specs.Views.{shown_to}
use Rattle.tube_cell.specs.Passes.{Learns, here}
use Rattle.tube_side.proofs.Waits.{waited_on, learned, still_learnt}
use Rattle.tube_side.proofs.spec_horizon.speculate_first.Goals as goal

pub publish_on-requires-clause-speculation : goal.publish_on-requires-clause-speculation
publish_on-requires-clause-speculation g c =
    let same : c.readings.result ≡ c.args.mark.now.readings = search rules in (
      c.requires.speculation.0,
      c.requires.speculation.1 ∙ sym same ∙ c.readings.ensures ∙ ap (λ s. shown_to s (here c.loop.pass)) (c.loop.invariant.waited.same.side ∙ c.requires.side),
    )

pub returns-then-publish_on-clause-paid : goal.returns-then-publish_on-clause-paid
returns-then-publish_on-clause-paid g c told = c.publish_on.ensures.paid c.args.pass.now c.if-publish_on.true c.loop.invariant.learnt

pub loop-preserved : goal.loop-preserved
loop-preserved g c =
    let p = c.loop.pass in
    let q = c.publish_on.new.pass in
    let l : Learns p q = c.publish_on.ensures.learns c.if-publish_on.false in
    let was = c.loop.invariant.later in
    record {
      can_next = tt;
      finite = tt;
      waited = waited_on c.loop.invariant.waited (learned c.loop.invariant.waited.same.speculative l);
      ahead = ap (λ x. x.ahead) l.rest ∙ c.loop.invariant.ahead;
      learnt = still_learnt c.args.pass.now c.args.t.0 (c.loop.invariant.waited.same.side ∙ c.requires.side) c.loop.invariant.learnt l;
      later = omega arith;
    }
