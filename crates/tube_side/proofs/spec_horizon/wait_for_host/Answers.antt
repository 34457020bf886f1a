use Rattle.std.proofs.Common.{◌∙◌, ap}
use Rattle.tube_side.proofs.SpecHorizons.{passed_learned, told_learned, passed_of}
use Rattle.tube_side.proofs.Waits.{learned_speculatively, passed_paid}
use Rattle.tube_side.proofs.spec_horizon.wait_for_host.Goals as goal

pub returns-then-spec_horizon-other-clause-passed : goal.returns-then-spec_horizon-other-clause-passed
returns-then-spec_horizon-other-clause-passed g c p told =
    let side = c.loop.invariant.side ∙ c.requires.side in
    passed_learned c.requires.is_speculation _ p side (c.loop.invariant.told p told) c.learn.ensures
    (passed_of side c.learn.ensures c.spec_horizon-spec_horizon.ensures c.other.ensures c.if-spec_horizon-other.true)

pub returns-then-spec_horizon-other-clause-paid : goal.returns-then-spec_horizon-other-clause-paid
returns-then-spec_horizon-other-clause-paid g c p paid =
    let side = c.loop.invariant.side ∙ c.requires.side in
    passed_paid p c.learn.new.pass (passed_of side c.learn.ensures c.spec_horizon-spec_horizon.ensures c.other.ensures c.if-spec_horizon-other.true)
    (learned_speculatively p side c.learn.ensures (c.loop.invariant.paid p paid))

pub loop-preserved : goal.loop-preserved
loop-preserved g c =
    let side = c.loop.invariant.side ∙ c.requires.side in
    record {
      can_next = tt;
      finite = tt;
      told = λ p told. told_learned c.requires.is_speculation _ p side (c.loop.invariant.told p told) c.learn.ensures;
      paid = λ p paid. learned_speculatively p side c.learn.ensures (c.loop.invariant.paid p paid);
      cell = ap (λ x. x.cell) c.learn.ensures.rest ∙ c.loop.invariant.cell;
      side = ap (λ x. x.side) c.learn.ensures.rest ∙ c.loop.invariant.side;
    }
