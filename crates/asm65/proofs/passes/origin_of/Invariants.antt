use Rattle.std.proofs.Common.{◌≡◌, length}
use Rattle.asm_lines.specs.Syntax.{parsed_text}
use Rattle.asm65.specs.Placement.{origin_of}
use Rattle.asm65.proofs.passes.origin_of.Given as goal

abbrev pub invariant-loop-rest : goal.invariant-loop-rest
invariant-loop-rest l = origin_of (parsed_text l.text) ≡ origin_of (parsed_text l.rest)

abbrev pub decreases-loop-rest : goal.decreases-loop-rest
decreases-loop-rest l = length l.rest
