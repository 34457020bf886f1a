use Rattle.std.proofs.Common.{length}
use Rattle.sn76489.proofs.Catching.{SameEnd}
use Rattle.sn76489.proofs.chip.Sound.catch_up.Given as goal

abbrev pub invariant-loop-first : goal.invariant-loop-first
invariant-loop-first l = SameEnd l.moment l.left l.self l.writes l.initial.self

abbrev pub decreases-loop-first : goal.decreases-loop-first
decreases-loop-first l = length l.left
