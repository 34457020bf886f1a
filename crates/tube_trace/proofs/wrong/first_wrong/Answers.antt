use Rattle.std.proofs.Common.{◌≡◌, ◌∙◌, sym, Some, None}
use Rattle.tube_trace.specs.FirstWrong.{wrong}
use Rattle.tube_trace.proofs.WrongLemmas.{wrong_more, wrong_here, wrong_past, none_iff, first_wrong_is}
use Rattle.tube_trace.proofs.wrong.first_wrong.Goals as goal

pub returns-then-answer-entry : goal.returns-then-answer-entry
unfolding wrong
returns-then-answer-entry c =
    let is : Some (c.loop-place.place, c.apply-answer.result) ≡ wrong c.args.entries.now =
    sym (c.loop-place.invariant ∙ wrong_here c.loop-place.chip c.args.entries.now _ _ _ c.loop-place-test.true c.apply-answer.ensures.answer c.if-answer-entry.true) in
    record { value = is; none = none_iff c.args.entries.now is; first = first_wrong_is c.args.entries.now is }

pub loop-place-preserved : goal.loop-place-preserved
loop-place-preserved c =
    c.loop-place.invariant
    ∙ wrong_more c.loop-place.chip c.apply-answer.new.self c.args.entries.now _ _ _ c.loop-place-test.true c.apply-answer.ensures.answer c.if-answer-entry.false c.apply-answer.ensures.chip

pub returns : goal.returns
unfolding wrong
returns c =
    let is : None ≡ wrong c.args.entries.now = sym (c.loop-place.invariant ∙ wrong_past c.loop-place.chip c.args.entries.now c.loop-place.place c.loop-place-test.false) in
    record { value = is; none = none_iff c.args.entries.now is; first = first_wrong_is c.args.entries.now is }
