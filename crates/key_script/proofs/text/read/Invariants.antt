use Rattle.std.proofs.Common.{length}
use Rattle.key_script.proofs.ReadLemmas.{ReadSoFar}
use Rattle.key_script.proofs.text.read.Given as goal

abbrev pub invariant-loop-rest : goal.invariant-loop-rest
invariant-loop-rest l = ReadSoFar l.bytes l.events.items (l.last).0 l.shots l.rest

abbrev pub decreases-loop-rest : goal.decreases-loop-rest
decreases-loop-rest l = length l.rest
