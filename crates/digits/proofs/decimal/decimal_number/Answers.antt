use Rattle.std.proofs.Common.{◌<◌, ◌+◌, ◌*◌, ◌-◌, get_or, sym, arith}
use Rattle.digits.specs.Decimal.{decimal_value}
use Rattle.digits.proofs.DecimalLemmas.{past, number_past}
use Rattle.digits.proofs.decimal.decimal_number.Goals as goal

pub returns-then-more-from-clause-value : goal.returns-then-more-from-clause-value
returns-then-more-from-clause-value c =
    let text = c.args.text.now in
    let more : c.args.most < 10 * c.loop-b.number + (get_or text c.loop-b.b-index 0 - 48) = omega arith in
    let whole : c.args.most < decimal_value text = rw c.loop-b.invariant.so_far (past c.args.most c.loop-b.number c.loop-b.b-index text c.loop-b-test.true more) in
    sym (number_past c.args.most text whole)
