use Rattle.std.proofs.Common.{◌≡◌, length}
use Rattle.host_bus.specs.CodeReads.{HasBytes}
use Rattle.host_bus.proofs.board.cover_empty.Given as goal

-- the bytes that are filled
abbrev pub invariant-loop-i : goal.invariant-loop-i
invariant-loop-i l = (length l.shown ≡ 65536) × HasBytes l.initial.shown 32768 l.i (λ at. 0xFF) l.shown
