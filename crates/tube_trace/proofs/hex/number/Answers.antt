use Rattle.std.proofs.Common.{◌∙◌, get_or}
use Rattle.tube_trace.proofs.HexTables.{sum_fits, sum_step, sum_end, sum_small_is, sum_none}
use Rattle.tube_trace.proofs.hex.number.Goals as goal

pub loop-b-preserved : goal.loop-b-preserved
loop-b-preserved c = record {
  so_far = rw c.value.ensures.value (c.loop-b.invariant.so_far ∙ sum_step c.args.digits.now c.loop-b.number c.loop-b.b-index c.loop-b-test.true);
  bound = rw c.value.ensures.value (sum_fits c.loop-b.number (get_or c.args.digits.now c.loop-b.b-index 0) c.loop-b.b-index c.loop-b.invariant.bound);
}

pub returns-then-number-lt-X : goal.returns-then-number-lt-X
returns-then-number-lt-X c =
    let end_ = sum_end c.args.digits.now c.loop-b.number c.loop-b.b-index c.loop-b-test.false c.loop-b.invariant.so_far in
    let sum = sum_small_is c.args.digits.now c.loop-b.number end_ c.if-number-lt-X.true in
    record { value = rw (sum.all, sum.is); bound = sum.bound }

pub returns-else-number-lt-X-clause-value : goal.returns-else-number-lt-X-clause-value
returns-else-number-lt-X-clause-value c =
    sum_none c.args.digits.now c.loop-b.number c.requires (sum_end c.args.digits.now c.loop-b.number c.loop-b.b-index c.loop-b-test.false c.loop-b.invariant.so_far) c.if-number-lt-X.false
