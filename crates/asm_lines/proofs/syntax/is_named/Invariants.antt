use Rattle.std.proofs.Common.{◌≡◌, drop}
use Rattle.asm_lines.specs.Syntax.{is_named}
use Rattle.asm_lines.proofs.syntax.is_named.Given as goal

abbrev pub invariant-loop-i : goal.invariant-loop-i
invariant-loop-i l = is_named l.name l.run ≡ is_named (drop l.i l.name) (drop l.i l.run)
