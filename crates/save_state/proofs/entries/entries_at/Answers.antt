use Rattle.std.proofs.lemmas.Result.{err_from_is_err_and}
use Rattle.save_state.proofs.Loop.{more, fails, over, entry_step, entries_over}
use Rattle.save_state.proofs.entries.entries_at.Goals as goal

pub returns-in_err-entry : goal.returns-in_err-entry
returns-in_err-entry c =
    let p = err_from_is_err_and c.from_residual-in_err-entry.result c.from_residual-in_err-entry.ensures.1 in
    rw (p.1, p.2) (fails c.in_err-entry.field-0.0 _ _ _ (entry_step c.args.ticks.0 c.loop.last c.args.bytes.now c.loop.next c.loop-test.true) c.in_err-entry.ensures c.loop.invariant)

pub loop-preserved : goal.loop-preserved
loop-preserved c =
    rw c.in_ok-push.ensures.items (more _ _ (entry_step c.args.ticks.0 c.loop.last c.args.bytes.now c.loop.next c.loop-test.true) c.in_ok-entry.ensures c.loop.invariant)

pub returns : goal.returns
returns c = over (entries_over c.args.ticks.0 c.loop.last c.args.bytes.now c.loop-test.false) c.loop.invariant
