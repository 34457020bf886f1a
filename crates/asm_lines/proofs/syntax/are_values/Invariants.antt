use Rattle.std.proofs.Common.{◌≡◌, is_some}
use Rattle.asm_lines.specs.Syntax.{values_of}
use Rattle.asm_lines.specs.Tokens.{tokens_of}
use Rattle.asm_lines.specs.Code.{values_from, code_left}
use Rattle.asm_lines.proofs.syntax.are_values.Given as goal

abbrev pub invariant-loop-rest : goal.invariant-loop-rest
invariant-loop-rest l = is_some (values_of (tokens_of l.fn.code)) ≡ is_some (values_from l.rest)

abbrev pub decreases-loop-rest : goal.decreases-loop-rest
decreases-loop-rest l = code_left l.rest
