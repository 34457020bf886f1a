use Rattle.std.proofs.Common.{arith}
use Rattle.asm65.proofs.PassLemmas.{at_fault}
use Rattle.asm65.proofs.SourceLemmas.{origin_within, source_first, source_second, source_program}
use Rattle.asm65.proofs.assemble.Goals as goal

pub returns-in-Err-clause-value : goal.returns-in-Err-clause-value
returns-in-Err-clause-value c = at_fault (λ fault. source_first c.args.part c.args.text.now c.origin_of-origin.ensures fault) c.in-Err.ensures

pub second_pass-requires-clause-within : goal.second_pass-requires-clause-within
second_pass-requires-clause-within c = origin_within c.args.part c.args.text.now c.origin_of-origin.ensures c.in-Ok.ensures

pub overflow_cast-result : goal.overflow_cast-result
overflow_cast-result c = let small = origin_within c.args.part c.args.text.now c.origin_of-origin.ensures c.in-Ok.ensures in omega (arith, small)

pub returns-in-Ok-second_pass-clause-value : goal.returns-in-Ok-second_pass-clause-value
returns-in-Ok-second_pass-clause-value c =
    source_program c.args.part c.args.text.now c.origin_of-origin.ensures c.in-Ok.ensures c.in-Ok-second_pass.ensures

pub returns-clause-value : goal.returns-clause-value
returns-clause-value c =
    at_fault (λ fault. source_second c.args.part c.args.text.now c.origin_of-origin.ensures c.in-Ok.ensures fault) c.in-Err-second_pass.ensures
