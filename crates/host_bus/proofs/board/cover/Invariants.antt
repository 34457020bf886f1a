use Rattle.std.proofs.Common.{◌≡◌, ◌-◌, length}
use Rattle.std.specs.Prelude.{slice_index}
use Rattle.host_bus.specs.CodeReads.{HasBytes}
use Rattle.host_bus.proofs.board.cover.Given as goal

-- the bytes that are copied
abbrev pub invariant-loop-i : goal.invariant-loop-i
invariant-loop-i l = (length l.shown ≡ 65536) × HasBytes l.initial.shown 49152 l.i (λ at. slice_index l.roms.os (at - 49152)) l.shown
