use Rattle.std.proofs.Common.{◌≡◌, drop}
use Rattle.save_state.specs.Parts.{each_at}
use Rattle.save_state.proofs.Loop.{with_front}
use Rattle.save_state.proofs.parts.each_at.Given as goal

abbrev pub invariant-loop-kind : goal.invariant-loop-kind
invariant-loop-kind l = with_front l.parts.items (each_at (drop l.kind-index l.kinds) l.bytes l.next) ≡ each_at l.kinds l.bytes l.at
