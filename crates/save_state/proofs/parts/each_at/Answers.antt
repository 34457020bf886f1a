use Rattle.std.proofs.lemmas.Result.{err_from_is_err_and}
use Rattle.save_state.proofs.Loop.{more, fails, over, part_step, parts_over}
use Rattle.save_state.proofs.parts.each_at.Goals as goal

pub returns-in_err-part : goal.returns-in_err-part
returns-in_err-part c =
    let p = err_from_is_err_and c.from_residual-in_err-part.result c.from_residual-in_err-part.ensures.1 in
    rw (p.1, p.2) (fails c.in_err-part.field-0.0 _ _ _ (part_step c.args.kinds.now _ c.args.bytes.now c.loop-kind.next c.loop-kind-test.true)
    c.in_err-part.ensures c.loop-kind.invariant)

pub loop-kind-preserved : goal.loop-kind-preserved
loop-kind-preserved c =
    rw c.in_ok-push.ensures.items (more _ _ (part_step c.args.kinds.now _ c.args.bytes.now c.loop-kind.next c.loop-kind-test.true) c.in_ok-part.ensures c.loop-kind.invariant)

pub returns : goal.returns
returns c = over (parts_over c.args.kinds.now c.args.bytes.now c.loop-kind-test.false) c.loop-kind.invariant
