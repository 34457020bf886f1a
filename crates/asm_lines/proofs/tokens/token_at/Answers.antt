use Rattle.std.proofs.Common.{◌<◌, length, arith}
use Rattle.asm_lines.proofs.TokenLemmas.{word_has_byte}
use Rattle.asm_lines.proofs.tokens.token_at.Goals as goal

pub returns-then-is_word_byte-clause-shorter : goal.returns-then-is_word_byte-clause-shorter
returns-then-is_word_byte-clause-shorter c =
    let some : 0 < length c.run_and_rest.result.0.now =
    word_has_byte c.args.first c.args.behind.now c.args.code.now c.run_and_rest.result.0.now c.requires.front c.if-is_word_byte.ensures c.run_and_rest.ensures.run in
    let split = c.run_and_rest.ensures.split in
    omega (arith, some, split)
