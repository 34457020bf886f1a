use Rattle.std.proofs.Common.{◌∙◌, refl, ap}
use Rattle.session.proofs.InSpeculation.{one_reached, further_on, told_on}
use Rattle.session.proofs.speculation.strides_on.Goals as goal

pub speculate_more-requires-clause-told : goal.speculate_more-requires-clause-told
speculate_more-requires-clause-told g c =
    let told = c.requires.told in
    let r = c.reached-so_far.ensures in
    let gone = c.stride_to-next.ensures in
    (told.0, told_on gone.further gone.pass r c.reached-t.ensures (c.loop.invariant.told told.0 told.1 c.reached-so_far.result.0 told.2 r told.3))

pub returns-then-le-2-clause-told : goal.returns-then-le-2-clause-told
returns-then-le-2-clause-told g c p t u at_t at_u told =
    let r = c.reached-so_far.ensures in
    let gone = c.stride_to-next.ensures in
    told_on gone.further gone.pass r at_u (c.loop.invariant.told p t c.reached-so_far.result.0 at_t r told)

pub returns-then-le-2-clause-paid : goal.returns-then-le-2-clause-paid
returns-then-le-2-clause-paid g c p paid = rw c.stride_to-next.ensures.pass (c.loop.invariant.paid p paid)

pub returns-then-le-2-clause-further : goal.returns-then-le-2-clause-further
returns-then-le-2-clause-further g c =
    further_on _ refl c.loop.invariant.further c.stride_to-next.ensures.further

pub returns-then-not-speculate_more-clause-told : goal.returns-then-not-speculate_more-clause-told
returns-then-not-speculate_more-clause-told g c p t v at_t at_v told =
    let r = c.reached-so_far.ensures in
    let u = c.reached-t.ensures in
    let gone = c.stride_to-next.ensures in
    let then = told_on gone.further gone.pass r u (c.loop.invariant.told p t c.reached-so_far.result.0 at_t r told) in
    rw (one_reached c.args.n.0 _ _ v u at_v) at (c.speculate_more.ensures.told p then)

pub returns-then-not-speculate_more-clause-paid : goal.returns-then-not-speculate_more-clause-paid
returns-then-not-speculate_more-clause-paid g c p paid =
    c.speculate_more.ensures.paid p (rw c.stride_to-next.ensures.pass (c.loop.invariant.paid p paid))

pub returns-then-not-speculate_more-clause-further : goal.returns-then-not-speculate_more-clause-further
returns-then-not-speculate_more-clause-further g c =
    further_on c.speculate_more.new.pass refl c.loop.invariant.further c.stride_to-next.ensures.further

pub loop-preserved : goal.loop-preserved
loop-preserved g c =
    let gone = c.stride_to-next.ensures in
    record {
      can_next = tt;
      finite = tt;
      further = further_on c.speculate_more.new.pass refl c.loop.invariant.further gone.further;
      told = λ p t v at_t at_v told.
          let r = c.reached-so_far.ensures in
          let u = c.reached-t.ensures in
          let then = told_on gone.further gone.pass r u (c.loop.invariant.told p t c.reached-so_far.result.0 at_t r told) in
          rw (one_reached c.args.n.0 _ _ v u at_v) at (c.speculate_more.ensures.told p then);
      paid = λ p paid. c.speculate_more.ensures.paid p (rw gone.pass (c.loop.invariant.paid p paid));
      cell = c.speculate_more.ensures.seat.0 ∙ ap (λ x. x.cell) gone.pass ∙ c.loop.invariant.cell;
      side = c.speculate_more.ensures.seat.1 ∙ ap (λ x. x.side) gone.pass ∙ c.loop.invariant.side;
    }
