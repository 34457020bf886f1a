use Rattle.std.proofs.Common.{◌≡◌, length}
use Rattle.follow.specs.Listing.{behind_line}
use Rattle.follow.proofs.line.behind_line.Given as goal

abbrev pub invariant-loop-first : goal.invariant-loop-first
invariant-loop-first l = behind_line l.rest ≡ behind_line l.fn.text

abbrev pub decreases-loop-first : goal.decreases-loop-first
decreases-loop-first l = length l.rest
