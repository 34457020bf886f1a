use Rattle.std.proofs.Common.{length}
use Rattle.follow.proofs.Pointing.{ReadSoFar}
use Rattle.follow.proofs.points.Points.read.Given as goal

abbrev pub invariant-loop-rest : goal.invariant-loop-rest
invariant-loop-rest l = ReadSoFar l.bytes l.marked.items l.line l.least l.rest

abbrev pub decreases-loop-rest : goal.decreases-loop-rest
decreases-loop-rest l = length l.rest
