use Rattle.std.proofs.Common.{arith, refl, ◌∙◌, ap, subst}
use Rattle.std.proofs.lemmas.List.{take_all}
use Rattle.tube_party.specs.Logs.{none_noted}
use Rattle.tube_side.specs.CodeSteps.{all_events}
use Rattle.session.specs.CodeSideAndLog.{side_and_log}
use Rattle.session.specs.CodeSpecRun.{spec_start, IsSettled}
use Rattle.session.proofs.InSpeculation.{if_none, reached_at, went, cut_back}
use Rattle.session.proofs.ahead.go_ahead.Goals as goal

pub returns-in_err-first-clause-none : goal.returns-in_err-first-clause-none
returns-in_err-first-clause-none g c =
    let pass = c.set_out.ensures.pass in
    let log = c.args.half.now.log in
    let none = c.in_err-first.ensures.none in
    if_none c.from_residual.result _ (record {
      waited = record {
        same = record { cell = ap (λ x. x.cell) pass; side = ap (λ x. x.side) pass; speculative = ap (λ x. x.speculative) pass ∙ c.requires.none_speculative };
        events = ap all_events pass;
      };
      ahead = ap (λ x. x.ahead) pass;
      state_is = none.0;
      noted = rw none.1 (none_noted log);
    })

pub returns-then-not-speculate_first-clause-none : goal.returns-then-not-speculate_first-clause-none
returns-then-not-speculate_first-clause-none g c =
    let pass = c.set_out.ensures.pass in
    let not = c.if-not-speculate_first.true in
    let some = c.in_ok-first.ensures.some in
    let kept = c.requires.kept in
    record {
      waited = rw pass at (c.speculate_first.ensures.waited not);
      ahead = c.speculate_first.ensures.unpublished not ∙ ap (λ x. x.ahead) pass;
      state_is = c.rewind.ensures ∙ some.1;
      noted = cut_back c.cut.new.self kept.0 kept.1 some.2 c.cut.ensures.list c.cut.ensures.count c.cut.ensures.keep;
    }

pub returns-clause-paid : goal.returns-clause-paid
returns-clause-paid g c =
    let p = c.args.half.now.pass in
    let first = rw c.set_out.ensures.pass at (c.speculate_first.ensures.paid c.if-not-speculate_first.false) in
    rw c.roll_back.ensures.pass (c.wait_for_host.ensures.paid p (c.strides_on-ask.ensures.paid p first))

pub returns-clause-some : goal.returns-clause-some
returns-clause-some g c =
    let state = g.M.Party.state in
    let at = c.args.from.now in
    let p = c.args.half.now.pass in
    let t = c.reached-t-2.result.0 in
    let some = c.in_ok-first.ensures.some in
    let gone = c.strides_on-ask.ensures.further in
    let first = rw c.set_out.ensures.pass at (c.speculate_first.ensures.speculative c.if-not-speculate_first.false) in
    let told = c.strides_on-ask.ensures.told p c.reached-t.result.0 t c.reached-t.ensures c.reached-t-2.ensures first in
    let passed = rw c.requires.speculation at (c.wait_for_host.ensures.passed p told) in
    let len = c.requires.kept.0 in
    let was = take_all at.log.len c.args.half.now.log.list.items (omega arith) in
    let list = c.roll_back.ensures.log.kept ∙ gone.log.kept ∙ some.2.kept ∙ was in
    let keep = c.roll_back.ensures.log.keep_is ∙ gone.log.keep_is ∙ some.2.keep_is in
    let back = subst (λ s. IsSettled g.M.Party.transitions c.args.n.0 (spec_start s at) c.spec_horizon-spec_horizon.result.0 c.roll_back.result (side_and_log state c.roll_back.new.half))
    (gone.from_is ∙ some.1) c.roll_back.ensures.settled in
    let reached = reached_at g.met.M.Party.lawful c.args.n.0 (spec_start (state c.args.half.now.machine) at) _ _ _ t gone.speculation.asked c.reached-t-2.ensures in
    (went g.M.Party.transitions g.met.M.Party.lawful (side_and_log state c.args.half.now) c.requires.side refl list keep c.requires.kept.1 passed (omega arith) c.roll_back.ensures.pass
    (rw c.spec_horizon-spec_horizon.ensures at back)).0
