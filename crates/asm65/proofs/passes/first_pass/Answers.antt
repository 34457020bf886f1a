use Rattle.std.proofs.Common.{arith}
use Rattle.asm65.proofs.PassLemmas.{passed_more, passed_fault, at_fault}
use Rattle.asm65.proofs.passes.first_pass.Goals as goal

pub returns-in-Err : goal.returns-in-Err
returns-in-Err c =
    let passed = rw c.next_line.ensures.lines at c.loop-rest.invariant.passed in
    at_fault (λ fault. passed_fault passed fault) c.in-Err.ensures

pub loop-rest-preserved : goal.loop-rest-preserved
loop-rest-preserved c = record {
  passed = passed_more (rw c.next_line.ensures.lines at c.loop-rest.invariant.passed) c.in-Ok.ensures;
  count = omega (arith, c.next_line.ensures.shorter, c.loop-rest.invariant.count);
}
