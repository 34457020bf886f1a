use Rattle.std.proofs.Common.{rules, ◌≡◌, ◌∙◌, ap}
use Rattle.tube_cell.specs.Views.{shown_to}
use Rattle.tube_cell.specs.Passes.{here}
use Rattle.tube_side.proofs.Waits.{here_bare}
use Rattle.tube_side.proofs.spec_horizon.speculate_more.Goals as goal

pub speculate_on-requires-clause-shown : goal.speculate_on-requires-clause-shown
speculate_on-requires-clause-shown g c =
    let same : c.args.mark.now.readings ≡ c.readings.result = search rules in
    here_bare c.loop.pass (c.loop.invariant.told c.requires.told.0 c.requires.told.1).ahead
    (c.requires.shown ∙ same ∙ c.readings.ensures ∙ ap (λ s. shown_to s (here c.loop.pass)) (c.loop.invariant.side ∙ c.requires.side))

pub speculate_on-requires-clause-told : goal.speculate_on-requires-clause-told
speculate_on-requires-clause-told g c = (c.requires.told.0, c.loop.invariant.told c.requires.told.0 c.requires.told.1)

pub returns-then-speculate_on-clause-paid : goal.returns-then-speculate_on-clause-paid
returns-then-speculate_on-clause-paid g c p paid = c.speculate_on.ensures.paid p (c.loop.invariant.paid p paid)

pub returns-then-speculate_on-clause-told : goal.returns-then-speculate_on-clause-told
returns-then-speculate_on-clause-told g c p told = c.speculate_on.ensures.told p (c.loop.invariant.told p told)

pub loop-preserved : goal.loop-preserved
loop-preserved g c = record {
  can_next = tt;
  finite = tt;
  told = λ p told. c.speculate_on.ensures.told p (c.loop.invariant.told p told);
  paid = λ p paid. c.speculate_on.ensures.paid p (c.loop.invariant.paid p paid);
  cell = c.speculate_on.ensures.seat.0 ∙ c.loop.invariant.cell;
  side = c.speculate_on.ensures.seat.1 ∙ c.loop.invariant.side;
}
