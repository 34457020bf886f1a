use Rattle.std.proofs.Common.{◌≡◌, ◌≤◌, length}
use Rattle.asm_lines.specs.Tokens.{tokens_of}
use Rattle.asm_lines.proofs.tokens.next_token.Given as goal

abbrev pub invariant-loop-rest : goal.invariant-loop-rest
invariant-loop-rest l = record {
  tokens : tokens_of l.code ≡ tokens_of l.rest;
  shorter : length l.rest ≤ length l.code;
}

abbrev pub decreases-loop-rest : goal.decreases-loop-rest
decreases-loop-rest l = length l.rest
