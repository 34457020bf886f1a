use Rattle.asm_lines.proofs.TokenLemmas.{run_is, run_rest}
use Rattle.asm_lines.proofs.tokens.run_and_rest.Goals as goal

pub returns-clause-run : goal.returns-clause-run
returns-clause-run c = (run_is c.args.code.now c.run_length-end.result c.run_length-end.ensures.value).0

pub returns-clause-rest : goal.returns-clause-rest
returns-clause-rest c = run_rest c.args.code.now c.run_length-end.result c.run_length-end.ensures.value c.run_length-end.ensures.within
