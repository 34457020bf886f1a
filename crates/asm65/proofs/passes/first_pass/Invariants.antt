use Rattle.std.proofs.Common.{◌+◌, ◌≤◌, length}
use Rattle.asm_lines.specs.Syntax.{parsed_text}
use Rattle.asm65.specs.Placement.{placed_from}
use Rattle.asm65.proofs.PassLemmas.{Passed}
use Rattle.asm65.proofs.passes.first_pass.Given as goal

abbrev pub invariant-loop-rest : goal.invariant-loop-rest
invariant-loop-rest l = record {
  passed : Passed l.part (placed_from l.part l.origin (parsed_text l.text)) l.line_number l.labels l.address (parsed_text l.rest);
  count : l.line_number + length l.rest ≤ length l.text;
}

abbrev pub decreases-loop-rest : goal.decreases-loop-rest
decreases-loop-rest l = length l.rest
