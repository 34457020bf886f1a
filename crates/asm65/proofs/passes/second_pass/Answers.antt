use Rattle.std.proofs.Common.{arith}
use Rattle.asm65.proofs.PassLemmas.{at_fault}
use Rattle.asm65.proofs.EncodeLemmas.{encoded_short, encoded_more, encoded_fault}
use Rattle.asm65.proofs.passes.second_pass.Goals as goal

pub encode-requires-clause-short : goal.encode-requires-clause-short
encode-requires-clause-short c = encoded_short (rw c.next_line.ensures.lines at c.loop-rest.invariant.encoded)

pub returns-in-Err : goal.returns-in-Err
returns-in-Err c =
    let encoded = rw c.next_line.ensures.lines at c.loop-rest.invariant.encoded in
    at_fault (encoded_fault encoded) c.in-Err.ensures

pub loop-rest-preserved : goal.loop-rest-preserved
loop-rest-preserved c = record {
  encoded = encoded_more (rw c.next_line.ensures.lines at c.loop-rest.invariant.encoded) c.in-Ok.ensures;
  count = omega (arith, c.next_line.ensures.shorter, c.loop-rest.invariant.count);
}
